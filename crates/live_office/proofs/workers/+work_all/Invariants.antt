use Rattle.live_office.proofs.workers.+work_all.Given as goal

abbrev pub decreases-work_all : goal.decreases-work_all
decreases-work_all g l = l.count

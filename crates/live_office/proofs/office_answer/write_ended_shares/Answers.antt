use Rattle.std.proofs.Common.{refl, codes, ◌++◌, ◌∷◌, []}
use Rattle.std.specs.List.{flat_map}
use Rattle.plain_words.proofs.WriteLaws.{Writes-err}
use Rattle.delta_wire.proofs.Prefixes.{two_failed, two_written}
use Rattle.live_office.specs.Answers.{ended_shares}
use Rattle.live_office.specs.RecordLines.{share_line}
use Rattle.live_office.proofs.office_answer.write_ended_shares.Goals as goal

pub returns-in_err-write_site_shares : goal.returns-in_err-write_site_shares
returns-in_err-write_site_shares g c =
    Writes-err _ _ c.from_residual.result _ c.from_residual.ensures.0
    (two_failed _ _ (ended_shares c.args.rows.now) (flat_map share_line c.args.rows.now) (codes "end" ++ 10 ∷ []) refl c.in_err-write_site_shares.ensures)

pub returns : goal.returns
returns g c =
    two_written _ _ _ c.write_end.result (ended_shares c.args.rows.now) (flat_map share_line c.args.rows.now) (codes "end" ++ 10 ∷ []) refl
    c.in_ok-write_site_shares.ensures c.write_end.ensures

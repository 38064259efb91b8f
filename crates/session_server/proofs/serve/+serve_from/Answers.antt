use Rattle.std.proofs.Common.{◌∙◌, length, ap, rules, subst}
use Rattle.std.specs.Prelude.{IsSome, is_some}
use Rattle.session_server.proofs.Seats.{one_lacks, parts_more, seats_lack, seats_more, shares_lack, shares_more}
use Rattle.session_server.specs.Visited.{visit_ended, visit_of}
use Rattle.session_server.proofs.Rows.{mapped_more, same_visit}
use Rattle.session_server.proofs.serve.+serve_from.Goals as goal

pub returns-in-Ok-clause-parts : goal.returns-in-Ok-clause-parts
returns-in-Ok-clause-parts g t c =
    parts_more (λ e. IsSome e.writer) (λ s. s.seat) _ _ _ _ _ c.args.seats.now.items c.join-end.result.1 _ _ c.in-Some.session
    c.push_reserved.ensures.items c.push_reserved-in-Ok.ensures.items c.in-Some.ensures.items c.serve_from.ensures.parts (search rules)

pub returns-in-Err-clause-parts : goal.returns-in-Err-clause-parts
returns-in-Err-clause-parts g t c =
    one_lacks (λ e. IsSome e.writer) _ _ _ c.push_reserved-in-Err.ensures.items
    (λ some. let bad = subst (λ w. IsSome w) c.not_started.ensures.writer some in cc)

pub returns-in-Ok-clause-shares : goal.returns-in-Ok-clause-shares
returns-in-Ok-clause-shares g t c =
    shares_more (length g.L.Opens.began) (λ e. e.receipts.items) (λ s. s.seat) _ _ c.args.ends.now.items _ _ _ c.args.seats.now.items c.join-end.result.1 _
    _ c.in-Some.session c.push_reserved.ensures.items c.push_reserved-in-Ok.ensures.items c.in-Some.ensures.items c.serve_from.ensures.shares (search rules)

pub returns-in-Err-clause-shares : goal.returns-in-Err-clause-shares
returns-in-Err-clause-shares g t c =
    shares_lack (length g.L.Opens.began) (λ e. e.receipts.items) (λ s. s.seat) _ _ c.args.ends.now.items _ c.serve_from-in-Err.new.seats.items
    c.args.seats.now.items _ _ c.in-Some.session c.push_reserved-in-Err.ensures.items c.in-Some.ensures.items c.serve_from-in-Err.ensures.shares

pub returns-in-Ok-clause-seats : goal.returns-in-Ok-clause-seats
returns-in-Ok-clause-seats g t c =
    seats_more (λ e. is_some e.writer) _ _ c.args.ends.now.items _ _ _ c.args.seats.now.items c.join-end.result.1 c.push_reserved.ensures.items
    c.push_reserved-in-Ok.ensures.items c.serve_from.ensures.seats (search rules)

pub returns-in-Err-clause-seats : goal.returns-in-Err-clause-seats
returns-in-Err-clause-seats g t c =
    seats_lack (λ e. is_some e.writer) _ _ c.args.ends.now.items _ _ _ c.push_reserved-in-Err.ensures.items c.serve_from-in-Err.ensures.seats
    (ap (λ w. is_some w) c.not_started.ensures.writer)

pub returns-in-Ok-clause-visits : goal.returns-in-Ok-clause-visits
returns-in-Ok-clause-visits g t c =
    mapped_more visit_ended visit_of c.args.ends.now.items c.serve_from.new.ends.items _ _ _ c.join-end.result.0 c.in-Some.session
    c.push_reserved.ensures.items c.in-Some.ensures.items (search rules) c.serve_from.ensures.visits

pub returns-in-Err-clause-visits : goal.returns-in-Err-clause-visits
returns-in-Err-clause-visits g t c =
    let began = c.not_started.ensures.began in
    let same = same_visit c.not_started.ensures.id (ap (λ s. s.value) began.0 ∙ c.of-reader_began.ensures)
    (ap (λ s. s.value) began.1 ∙ c.of-writer_began.ensures) in
    mapped_more visit_ended visit_of c.args.ends.now.items c.serve_from-in-Err.new.ends.items _ _ _ c.not_started.result c.in-Some.session
    c.push_reserved-in-Err.ensures.items c.in-Some.ensures.items same c.serve_from-in-Err.ensures.visits

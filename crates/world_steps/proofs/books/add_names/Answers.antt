use Rattle.std.proofs.Common.{sym, ◌∙◌, arith, ◌≤◌, length}
use Rattle.book_core.specs.History.{names_known}
use Rattle.world_steps.proofs.Names.{add_more, all_added, past_end}
use Rattle.world_steps.proofs.books.add_names.Goals as goal

pub names-preserved : goal.names-preserved
names-preserved c = λ known start.
    add_more c.args.names.now.keys c.names.names.keys c.insert.new.self.keys (names_known c.args.book.now.history) c.names.place c.in-Some.event known
    (sym c.event_at.ensures ∙ c.in-Some.is) (c.names.invariant known) c.in_ok-insert.ensures.keys start

pub unreachable-requires : goal.unreachable-requires
unreachable-requires c = omega (
  arith,
  c.names-test.true,
  c.event_count-place-end.ensures,
  past_end (names_known c.args.book.now.history) c.names.place (sym c.event_at.ensures ∙ c.in_default.is),
)

pub returns : goal.returns
returns c = λ known start.
    let all : length (names_known c.args.book.now.history) ≤ c.names.place = omega (arith, c.names-test.false, c.event_count-place-end.ensures) in
    all_added c.args.names.now.keys c.names.names.keys c.args.book.now.history c.names.place known all (c.names.invariant known) start

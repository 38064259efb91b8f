use Rattle.std.proofs.Common.{◌≡◌, rules, None, Some}
use Rattle.world_steps.specs.World.{opening}
use Rattle.desk_lines.specs.Reading.{limit_from_line}
use Rattle.book_core.specs.Limits.{greatest_limit}
use Rattle.operator_cli.specs.Ran.{OpenRan}
use Rattle.operator_cli.proofs.ScriptLaws.{at_err, open_unmade, open_broken, opens_limited, opens_answered}
use Rattle.operator_cli.proofs.world.open_world.Goals as goal

pub returns-in_err-limited : goal.returns-in_err-limited
returns-in_err-limited g c =
    at_err c.from_residual.result (OpenRan c.args.sites c.args.line.now (g.W.Write.contents c.args.out.now) (g.W.Write.contents c.args.out.now)) _
    c.from_residual.ensures.1
    (λ f e. open_unmade c.args.sites c.args.line.now _ f e)

pub returns-in-Some : goal.returns-in-Some
returns-in-Some g c =
    let opened : c.in_ok-limited.limited ≡ opening c.args.sites c.in-Some.limit = search rules in
    let limited : limit_from_line c.args.line.now ≡ Some c.in-Some.limit = search rules in
    opens_limited c.args.sites c.in-Some.limit c.args.line.now _ c.in_ok-limited.limited limited opened

pub returns-in_err-world : goal.returns-in_err-world
returns-in_err-world g c =
    at_err c.from_residual-in_err-world.result
    (OpenRan c.args.sites c.args.line.now (g.W.Write.contents c.args.out.now) (g.W.Write.contents c.args.out.now)) _ c.from_residual-in_err-world.ensures.1
    (λ f e. open_unmade c.args.sites c.args.line.now _ f e)

pub returns-in_err-reply : goal.returns-in_err-reply
returns-in_err-reply g c =
    let opened : c.in_ok-world.world ≡ opening c.args.sites greatest_limit = search rules in
    let unlimited : limit_from_line c.args.line.now ≡ None = search rules in
    at_err c.from_residual-in_err-reply.result
    (OpenRan c.args.sites c.args.line.now (g.W.Write.contents c.args.out.now) (g.W.Write.contents c.reply.new.out)) _ c.from_residual-in_err-reply.ensures.1
    (λ f e. rw e (open_broken c.args.sites c.args.line.now _ _ c.in_ok-world.world _ unlimited opened c.in_err-reply.ensures.written
    c.in_err-reply.ensures.fault))

pub returns : goal.returns
returns g c =
    let opened : c.in_ok-world.world ≡ opening c.args.sites greatest_limit = search rules in
    let unlimited : limit_from_line c.args.line.now ≡ None = search rules in
    opens_answered c.args.sites c.args.line.now _ _ c.in_ok-world.world c.reply.new.world unlimited opened c.in_ok-reply.ensures.written
    c.in_ok-reply.ensures.world

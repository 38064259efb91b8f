use Rattle.std.proofs.Common.{◌≡◌, ℕ, List, ap, sym, codes, ◌++◌, rules}
use Rattle.std.specs.Fmt.{decimal}
use Rattle.plain_words.proofs.WriteLaws.{Writes-err}
use Rattle.delta_wire.proofs.Prefixes.{two_failed, two_written}
use Rattle.operator_cli.specs.Offices.{open_line}
use Rattle.operator_cli.proofs.office.write_open.Goals as goal

pub returns-in_err-write_bytes : goal.returns-in_err-write_bytes
returns-in_err-write_bytes g c =
    let is : c.as_slice.result.now ≡ codes "open " ++ decimal c.args.port ++ codes " " = search rules in
    Writes-err _ _ c.from_residual.result _ c.from_residual.ensures.0
    (two_failed _ _ (open_line c.args.port c.args.file.now) c.as_slice.result.now (c.args.file.now ++ codes "\n")
    (ap (λ (l : List ℕ). l ++ (c.args.file.now ++ codes "\n")) (sym is)) c.in_err-write_bytes.ensures)

pub returns : goal.returns
returns g c =
    let is : c.as_slice.result.now ≡ codes "open " ++ decimal c.args.port ++ codes " " = search rules in
    two_written _ _ _ c.write_name.result (open_line c.args.port c.args.file.now) c.as_slice.result.now (c.args.file.now ++ codes "\n")
    (ap (λ (l : List ℕ). l ++ (c.args.file.now ++ codes "\n")) (sym is)) c.in_ok-write_bytes.ensures c.write_name.ensures

use Rattle.std.proofs.Common.{◌≡◌, ℕ, List, ap, sym, codes, ◌++◌}
use Rattle.plain_words.proofs.WriteLaws.{Writes-err}
use Rattle.delta_wire.proofs.Prefixes.{two_failed, two_written}
use Rattle.operator_cli.proofs.office.write_name.Goals as goal

pub returns-in_err-write_bytes : goal.returns-in_err-write_bytes
returns-in_err-write_bytes g c =
    Writes-err _ _ c.from_residual.result _ c.from_residual.ensures.0
    (two_failed _ _ (c.args.file.now ++ codes "\n") c.as_bytes.result.now (codes "\n")
    (ap (λ (l : List ℕ). l ++ codes "\n") (sym c.as_bytes.ensures.value)) c.in_err-write_bytes.ensures)

pub returns : goal.returns
returns g c =
    two_written _ _ _ c.write_bytes-2.result (c.args.file.now ++ codes "\n") c.as_bytes.result.now (codes "\n")
    (ap (λ (l : List ℕ). l ++ codes "\n") (sym c.as_bytes.ensures.value)) c.in_ok-write_bytes.ensures c.write_bytes-2.ensures

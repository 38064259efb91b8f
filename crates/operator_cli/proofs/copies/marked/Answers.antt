use Rattle.std.proofs.Common.{◌≡◌, ◌∙◌, false, inr, refl, sym}
use Rattle.paired_records.specs.Marks.{is_marked}
use Rattle.operator_cli.proofs.copies.marked.Goals as goal

pub returns-in-Ok-clause-marks : goal.returns-in-Ok-clause-marks
returns-in-Ok-clause-marks g c = record {
  once = sym c.is_one_of_two.ensures ∙ c.if-is_one_of_two.false;
  seen = c.in_ok-conn.conn;
  looked = c.in_ok-conn.ensures.looked;
  marked = c.in-Ok.ensures.marked;
  changed = c.in-Ok.ensures.changed;
  clean = c.in-Ok.ensures.clean;
}

pub returns-in-Err-clause-refused : goal.returns-in-Err-clause-refused
returns-in-Err-clause-refused g c =
    let once : is_marked c.args.conn.schema ≡ false = sym c.is_one_of_two.ensures ∙ c.if-is_one_of_two.false in
    inr (
      once,
      inr (
        c.mark.new.conn,
        refl,
        record {
          seen = c.in_ok-conn.conn;
          looked = c.in_ok-conn.ensures.looked;
          told = (c.in-Err.fault, c.of_mark_fault.ensures);
          crash = c.in-Err.ensures.crash;
        },
      ),
    )

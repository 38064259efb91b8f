use Rattle.std.specs.Prelude.{Err}
use Rattle.session_server.specs.declared.fault.TalkFault.TheVariants as talk
use Rattle.operator_cli.proofs.AskLaws.{asks_never}
use Rattle.operator_cli.proofs.asking.ask_office.Goals as goal

pub returns-in_default-clause-asked : goal.returns-in_default-clause-asked
returns-in_default-clause-asked g c = record {
  came = Err talk.Memory;
  left = g.A.Read.remaining c.args.answers;
  asked_all = asks_never _ _ _;
  ends_so = (c.tell_fault.ensures.status, c.tell_fault.ensures.line);
}

pub returns-in_default-new-clause-asked : goal.returns-in_default-new-clause-asked
returns-in_default-new-clause-asked g c = record {
  came = Err talk.Memory;
  left = g.A.Read.remaining c.args.answers;
  asked_all = asks_never _ _ _;
  ends_so = (c.tell_fault-in_default-new.ensures.status, c.tell_fault-in_default-new.ensures.line);
}

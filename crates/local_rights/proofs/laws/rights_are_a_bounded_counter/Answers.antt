use Rattle.local_rights.proofs.CounterLaws.{rights_are_local_rights, rights_not_negative, value_is_the_counters}
use Rattle.local_rights.proofs.laws.rights_are_a_bounded_counter.Goals as goal

pub returns-clause-rights : goal.returns-clause-rights
returns-clause-rights c = rights_are_local_rights

pub returns-clause-not_negative : goal.returns-clause-not_negative
returns-clause-not_negative c = rights_not_negative

pub returns-clause-value : goal.returns-clause-value
returns-clause-value c = value_is_the_counters

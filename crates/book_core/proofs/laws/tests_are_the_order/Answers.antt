use Rattle.book_core.proofs.OrderTests.{row_test}
use Rattle.book_core.proofs.OrderTests.{sites_test}
use Rattle.book_core.proofs.laws.tests_are_the_order.Goals as goal

pub returns-clause-own_row : goal.returns-clause-own_row
returns-clause-own_row c = row_test

pub returns-clause-sites : goal.returns-clause-sites
returns-clause-sites c = sites_test

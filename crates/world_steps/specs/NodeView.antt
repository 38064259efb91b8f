-- What contracts see of a site of the program. (Our own.)
use Rattle.std.specs.Prelude.{ℕ, List, refl}
use Rattle.std.specs.Coded.{Coded, code_by, coded×, coded_ℕ, coded_list}
use Rattle.book_core.specs.BookCode.{coded_book}
use Rattle.book_core.specs.BookView.{BookView}

-- the book, and what each peer has acknowledged of it
pub record NodeView : Type 0 where
  pub book : BookView
  pub acked : List ℕ

abbrev pub coded_node : Coded NodeView
coded_node = code_by (BookView × List ℕ) (coded× coded_book (coded_list coded_ℕ)) (λ n. (n.book, n.acked)) (λ p. record { book = p.0; acked = p.1 }) (λ _. refl)

-- The code of a book's view. (Our own.)
use Rattle.std.specs.Prelude.{ℕ, List, refl}
use Rattle.std.specs.Coded.{Coded, code_by, coded_ℕ, coded_list, coded×}
use Rattle.book_core.specs.contracts.entry.Entry as entry
use Rattle.book_core.specs.declared.entry.Entry.{Entry}
use Rattle.book_core.specs.BookView.{BookView}

abbrev pub coded_entry : Coded Entry
coded_entry = entry.the_row.coded

abbrev pub coded_book : Coded BookView
coded_book =
    code_by ((((ℕ × ℕ) × ℕ) × List Entry) × ((ℕ × ℕ) × (ℕ × ℕ)))
    (coded× (coded× (coded× (coded× coded_ℕ coded_ℕ) coded_ℕ) (coded_list coded_entry)) (coded× (coded× coded_ℕ coded_ℕ) (coded× coded_ℕ coded_ℕ)))
    (λ b. ((((b.office.me, b.office.sites), b.office.limit), b.history), ((b.room.entries, b.room.cells), (b.room.names, b.room.numbers))))
    (λ p. record {
      office = record { me = p.0.0.0.0; sites = p.0.0.0.1; limit = p.0.0.1 };
      history = p.0.1;
      room = record { entries = p.1.0.0; cells = p.1.0.1; names = p.1.1.0; numbers = p.1.1.1 };
    })
    (λ _. refl)

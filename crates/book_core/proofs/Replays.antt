-- A history that is replayed entry by entry: it stays legal, and the first entry that is not next is the first that is not legal.
use Rattle.std.proofs.Common.{◌≡◌, ℕ, ◌+◌, ◌<◌, List, [], ◌∷◌, ◌++◌, Some, refl, sym, ap, ◌∙◌, subst, map, take, length, get_or}
use Rattle.std.specs.Prelude.{slice_get}
use Rattle.std.proofs.lemmas.List.{take_more, map-id}
use Rattle.std.proofs.Math.Seq.{take-append_seam}
use Rattle.book_core.specs.declared.entry.Entry.{Entry}
use Rattle.book_core.specs.Decision.{SiteConfig}
use Rattle.book_core.specs.Legal.{IsNext, IsLegal}
use Rattle.book_core.specs.BookView.{BookView}
use Rattle.book_core.specs.Replay.{IsFirstIllegal, HasLegalEntry}
use Rattle.book_core.proofs.Histories.{legal_push}

pub legal_empty : (office : SiteConfig) (h : List Entry) → h ≡ [] → IsLegal office h
legal_empty office h is = subst (λ (g : List Entry). IsLegal office g) (sym is) (λ k entry found. cc)

pub legal_entered : (old new : BookView) (entry : Entry) → IsLegal old.office old.history → IsNext old.office old.history entry
    → new.office ≡ old.office → new.history ≡ old.history ++ entry ∷ [] → IsLegal new.office new.history
legal_entered old new entry legal next office_is history_is =
    subst (λ (o : SiteConfig). IsLegal o new.history) (sym office_is)
    (subst (λ (h : List Entry). IsLegal old.office h) (sym history_is) (legal_push old.office old.history entry legal next))

get_end : {A : Type 0} (xs : List A) (y : A) → slice_get (xs ++ y ∷ []) (length xs) ≡ Some y
get_end [] y = refl
get_end (x ∷ xs) y = get_end xs y

-- what an iterator of all entries has yielded at its end
pub all_yielded : (h yielded entries : List Entry) → h ≡ yielded → map (λ x. x) yielded ≡ entries → h ≡ entries
all_yielded h yielded entries is all = is ∙ sym (map-id yielded) ∙ all

-- the entry stands behind this history in the list of all entries
pub record IsAt (entries h : List Entry) (entry : Entry) : Type 0 where
  pub there : length h < length entries
  pub before : h ≡ take (length h) entries
  pub with_it : take (length h + 1) entries ≡ h ++ entry ∷ []

-- the entry that an iterator yields behind those that it has yielded
pub at_entry : (entries yielded h : List Entry) (entry : Entry) → h ≡ yielded → map (λ x. x) yielded ≡ take (length yielded) entries
    → (length yielded < length entries) × (entry ≡ get_or entries (length yielded) entry) → IsAt entries h entry
at_entry entries yielded h entry is so_far turn =
    let before : yielded ≡ take (length yielded) entries = sym (map-id yielded) ∙ so_far in
    let with_it : take (length yielded + 1) entries ≡ yielded ++ entry ∷ [] =
    take_more entries (length yielded) entry turn.0 ∙ ap (λ (e : Entry). take (length yielded) entries ++ e ∷ []) (sym turn.1)
    ∙ ap (λ (g : List Entry). g ++ entry ∷ []) (sym before) in
    subst (λ (g : List Entry). IsAt entries g entry) (sym is) (record { there = turn.0; before = before; with_it = with_it })

-- an entry that is not next is the first that is not legal
pub replay_stops : (office : SiteConfig) (entries : List Entry) (entry : Entry) (book : BookView) (place : ℕ) → IsAt entries book.history entry
    → book.office ≡ office → IsLegal book.office book.history → (IsNext book.office book.history entry → ⊥) → place ≡ length book.history
    → IsFirstIllegal office entries place
replay_stops office entries entry book place at office_is legal refused place_is =
    subst (λ (o : SiteConfig). IsFirstIllegal o entries place) office_is
    (subst (λ (k : ℕ). IsFirstIllegal book.office entries k) (sym place_is)
    (record {
      there = at.there;
      before = subst (λ (g : List Entry). IsLegal book.office g) at.before legal;
      here = λ all.
          let whole : IsLegal book.office (book.history ++ entry ∷ []) = subst (λ (g : List Entry). IsLegal book.office g) at.with_it all in
          refused (subst (λ (g : List Entry). IsNext book.office g entry) (take-append_seam book.history (entry ∷ []))
          (whole (length book.history) entry (get_end book.history entry)));
    }))

-- an entry that is next is legal
pub replay_goes_on : (office : SiteConfig) (entries : List Entry) (entry : Entry) (book : BookView) → IsAt entries book.history entry
    → book.office ≡ office → IsLegal book.office book.history → IsNext book.office book.history entry → HasLegalEntry office entries
replay_goes_on office entries entry book at office_is legal next = (
  length book.history,
  at.there,
  subst (λ (o : SiteConfig). IsLegal o (take (length book.history + 1) entries)) office_is
      (subst (λ (g : List Entry). IsLegal book.office g) (sym at.with_it) (legal_push book.office book.history entry legal next)),
)

-- the list of all entries is legal where the history is
pub replay_ends : (office : SiteConfig) (entries : List Entry) (book : BookView) → book.office ≡ office → book.history ≡ entries
    → IsLegal book.office book.history → IsLegal office entries
replay_ends office entries book office_is history_is legal =
    subst (λ (o : SiteConfig). IsLegal o entries) office_is (subst (λ (h : List Entry). IsLegal book.office h) history_is legal)

-- An event, a site and a value in words: what is read is spelled so, and what is spelled so is read.
use Rattle.std.proofs.Common.{◌≡◌, ℕ, true, List, ◌∷◌, Some, refl, ap, subst, ◌∙◌, arith, lit<}
use Rattle.std.specs.Fmt.{decimal}
use Rattle.std.proofs.lemmas.Option.{same_Some}
use Rattle.rights_lattice.specs.Cells.{greatest_value, IsValue}
use Rattle.rights_lattice.specs.EventName.{IsEventName, name_of}
use Rattle.rights_lattice.specs.Limits.{greatest_site, IsSite}
use Rattle.rights_lattice.proofs.EventLaws.{name_of_found, name_of_again}
use Rattle.plain_words.specs.Words.{first_word, ◌>>=◌}
use Rattle.plain_words.proofs.WordLaws.{lacks_space, bind_some, word_found}
use Rattle.plain_words.proofs.NumberLaws.{number_at_found, number_at_again, decimal_lacks_space}
use Rattle.delta_wire.specs.Fields.{event_at, site_at, natural_at}

pub event_at_found : (words : List (List ℕ)) (x : List ℕ × List (List ℕ)) → event_at words ≡ Some x → (words ≡ x.0 ∷ x.1) × IsEventName x.0
unfolding event_at
event_at_found words x e =
    let a = bind_some (first_word words) (λ w. name_of w.0 >>= λ n. Some (n, w.1)) x e in
    let b = bind_some (name_of a.0.0) (λ n. Some (n, a.0.1)) x a.2 in
    let f = name_of_found a.0.0 b.0 b.1 in
    let same : (b.0, a.0.1) ≡ x = same_Some (b.0, a.0.1) x b.2 in (
      word_found words a.0 a.1 ∙ ap (λ (w : List ℕ). w ∷ a.0.1) f.0 ∙ ap (λ (p : List ℕ × List (List ℕ)). p.0 ∷ p.1) same,
      subst (λ (p : List ℕ × List (List ℕ)). IsEventName p.0) same f.1,
    )

pub event_again : (e : List ℕ) (ws : List (List ℕ)) → IsEventName e → event_at (e ∷ ws) ≡ Some (e, ws)
unfolding event_at
event_again e ws h = rw (name_of_again e h) refl

pub site_at_found : (words : List (List ℕ)) (x : ℕ × List (List ℕ)) → site_at words ≡ Some x → (words ≡ decimal x.0 ∷ x.1) × IsSite x.0
site_at_found words x e = let f = number_at_found 0 greatest_site words x (lit< tt) e in (f.0, f.2)

pub site_again : (n : ℕ) (ws : List (List ℕ)) → IsSite n → site_at (decimal n ∷ ws) ≡ Some (n, ws)
site_again n ws h = number_at_again 0 greatest_site n ws (lit< tt) (omega arith) h

pub site_lacks_space : (n : ℕ) → IsSite n → lacks_space (decimal n) ≡ true
site_lacks_space n h = decimal_lacks_space n (omega arith)

pub value_at_found : (words : List (List ℕ)) (x : ℕ × List (List ℕ)) → natural_at words ≡ Some x → (words ≡ decimal x.0 ∷ x.1) × IsValue x.0
value_at_found words x e = let f = number_at_found 1 greatest_value words x (lit< tt) e in (f.0, (f.1, f.2))

pub value_again : (n : ℕ) (ws : List (List ℕ)) → IsValue n → natural_at (decimal n ∷ ws) ≡ Some (n, ws)
value_again n ws h = number_at_again 1 greatest_value n ws (lit< tt) h.0 h.1

pub value_lacks_space : (n : ℕ) → IsValue n → lacks_space (decimal n) ≡ true
value_lacks_space n h = decimal_lacks_space n (omega arith)

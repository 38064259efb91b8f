-- The laws of a request: what is read is spelled so, and what is spelled so is read.
use Rattle.std.proofs.Common.{◌≡◌, ℕ, true, List, [], ◌∷◌, Option, Some, None, refl, ap, subst, ◌∙◌, codes}
use Rattle.std.specs.Fmt.{decimal}
use Rattle.std.specs.List.{AllByRecursion}
use Rattle.std.proofs.lemmas.Option.{same_Some}
use Rattle.rights_lattice.specs.EventName.{IsEventName}
use Rattle.request_ledger.specs.declared.request.Request.{Request}
use Rattle.request_ledger.specs.declared.request.Request.TheVariants.{Announce, Release, Sell, Refund, Cede}
use Rattle.request_ledger.specs.declared.verb.Verb.{Verb}
use Rattle.request_ledger.specs.declared.verb.Verb.TheVariants as verb
use Rattle.request_ledger.specs.Words.{verb_word, verb_of, request_verb}
use Rattle.request_ledger.proofs.WordLaws.{verb_found, verb_again}
use Rattle.plain_words.specs.Words.{ended, ◌>>=◌}
use Rattle.plain_words.proofs.WordLaws.{lacks_space, bind_some, ended_found}
use Rattle.delta_wire.specs.Fields.{event_at, site_at, natural_at}
use Rattle.rights_lattice.specs.Cells.{IsValue}
use Rattle.delta_wire.proofs.FieldLaws.{event_at_found, event_again, site_at_found, site_again, site_lacks_space, value_at_found, value_again, value_lacks_space}
use Rattle.delta_wire.proofs.Names.{name_lacks_space}
use Rattle.request_ledger.specs.Ranges.{IsPart, IsRequest}
use Rattle.desk_lines.specs.Grammar.{request_words, part_words, operands}
use Rattle.desk_lines.specs.Requests.{sized_at, announce_at, release_at, sell_at, last_amount_at, part_at, refund_at, cede_at, request_at, numbered_at, request_from}

-- ---- a word, and the words after it

sized_at_found : (words : List (List ℕ)) (x : (List ℕ × ℕ) × List (List ℕ)) → sized_at words ≡ Some x
    → (words ≡ x.0.0 ∷ decimal x.0.1 ∷ x.1) × IsEventName x.0.0 × IsValue x.0.1
unfolding sized_at
sized_at_found words x e =
    let a = bind_some (event_at words) (λ v. natural_at v.1 >>= λ n. Some ((v.0, n.0), n.1)) x e in
    let b = bind_some (natural_at a.0.1) (λ n. Some ((a.0.0, n.0), n.1)) x a.2 in
    let p = event_at_found words a.0 a.1 in
    let q = value_at_found a.0.1 b.0 b.1 in
    subst (λ (y : (List ℕ × ℕ) × List (List ℕ)). (words ≡ y.0.0 ∷ decimal y.0.1 ∷ y.1) × IsEventName y.0.0 × IsValue y.0.1)
    (same_Some ((a.0.0, b.0.0), b.0.1) x b.2)
    (p.0 ∙ ap (λ (t : List (List ℕ)). a.0.0 ∷ t) q.0, p.1, q.1)

-- ---- requests

-- the words after the number are those of the request
abbrev Spells : Verb → List (List ℕ) → Request → Type 0
Spells v words q = ((n : ℕ) → verb_word v ∷ decimal n ∷ words ≡ request_words n q) × IsRequest q

announce_found : (words : List (List ℕ)) (q : Request) → announce_at words ≡ Some q → Spells verb.Announce words q
unfolding announce_at
announce_found words q e =
    let a = bind_some (event_at words) (λ v. ended (Announce v.0) v.1) q e in
    let p = event_at_found words a.0 a.1 in
    let z = ended_found (Announce a.0.0) q a.0.1 a.2 in
    subst (Spells verb.Announce words) z.1
    (λ n. ap (λ (t : List (List ℕ)). codes "announce" ∷ decimal n ∷ t) (p.0 ∙ ap (λ (t : List (List ℕ)). a.0.0 ∷ t) z.0), p.1)

sized_whole : (v : Verb) (words : List (List ℕ)) (x : (List ℕ × ℕ) × List (List ℕ)) (n : ℕ) → words ≡ x.0.0 ∷ decimal x.0.1 ∷ x.1 → x.1 ≡ []
    → verb_word v ∷ decimal n ∷ words ≡ verb_word v ∷ decimal n ∷ x.0.0 ∷ decimal x.0.1 ∷ []
sized_whole v words x n e z = ap (λ (t : List (List ℕ)). verb_word v ∷ decimal n ∷ t) (e ∙ ap (λ (t : List (List ℕ)). x.0.0 ∷ decimal x.0.1 ∷ t) z)

release_found : (words : List (List ℕ)) (q : Request) → release_at words ≡ Some q → Spells verb.Release words q
unfolding release_at
release_found words q e =
    let a = bind_some (sized_at words) (λ x. ended (Release x.0.0 x.0.1) x.1) q e in
    let p = sized_at_found words a.0 a.1 in
    let z = ended_found (Release a.0.0.0 a.0.0.1) q a.0.1 a.2 in
    subst (Spells verb.Release words) z.1 (λ n. sized_whole verb.Release words a.0 n p.0 z.0, (p.1, p.2))

sell_found : (words : List (List ℕ)) (q : Request) → sell_at words ≡ Some q → Spells verb.Sell words q
unfolding sell_at
sell_found words q e =
    let a = bind_some (sized_at words) (λ x. ended (Sell x.0.0 x.0.1) x.1) q e in
    let p = sized_at_found words a.0 a.1 in
    let z = ended_found (Sell a.0.0.0 a.0.0.1) q a.0.1 a.2 in
    subst (Spells verb.Sell words) z.1 (λ n. sized_whole verb.Sell words a.0 n p.0 z.0, (p.1, p.2))

-- a part of a sale, or none
abbrev SpellsPart : List (List ℕ) → Option ℕ → Type 0
SpellsPart words part = (words ≡ part_words part) × IsPart part

last_amount_found : (words : List (List ℕ)) (part : Option ℕ) → last_amount_at words ≡ Some part → SpellsPart words part
unfolding last_amount_at
last_amount_found words part e =
    let a = bind_some (natural_at words) (λ n. ended (Some n.0) n.1) part e in
    let p = value_at_found words a.0 a.1 in
    let z = ended_found (Some a.0.0) part a.0.1 a.2 in
    subst (SpellsPart words) z.1 (p.0 ∙ ap (λ (t : List (List ℕ)). decimal a.0.0 ∷ t) z.0, p.1)

part_found : (words : List (List ℕ)) (part : Option ℕ) → part_at words ≡ Some part → SpellsPart words part
unfolding part_at
part_found [] part e = subst (SpellsPart []) (same_Some None part e) (refl, tt)
part_found (w ∷ ws) part e = last_amount_found (w ∷ ws) part e

refund_found : (words : List (List ℕ)) (q : Request) → refund_at words ≡ Some q → Spells verb.Refund words q
unfolding refund_at
refund_found words q e =
    let a = bind_some (natural_at words) (λ m. part_at m.1 >>= λ part. Some (Refund m.0 part)) q e in
    let b = bind_some (part_at a.0.1) (λ part. Some (Refund a.0.0 part)) q a.2 in
    let p = value_at_found words a.0 a.1 in
    let r = part_found a.0.1 b.0 b.1 in
    subst (Spells verb.Refund words) (same_Some (Refund a.0.0 b.0) q b.2)
    (λ n. ap (λ (t : List (List ℕ)). codes "refund" ∷ decimal n ∷ t) (p.0 ∙ ap (λ (t : List (List ℕ)). decimal a.0.0 ∷ t) r.0), (p.1, r.1))

cede_found : (words : List (List ℕ)) (q : Request) → cede_at words ≡ Some q → Spells verb.Cede words q
unfolding cede_at
cede_found words q e =
    let a = bind_some (sized_at words) (λ x. site_at x.1 >>= λ to. ended (Cede x.0.0 to.0 x.0.1) to.1) q e in
    let b = bind_some (site_at a.0.1) (λ to. ended (Cede a.0.0.0 to.0 a.0.0.1) to.1) q a.2 in
    let p = sized_at_found words a.0 a.1 in
    let r = site_at_found a.0.1 b.0 b.1 in
    let z = ended_found (Cede a.0.0.0 b.0.0 a.0.0.1) q b.0.1 b.2 in
    subst (Spells verb.Cede words) z.1 (
      λ n. ap (λ (t : List (List ℕ)). codes "cede" ∷ decimal n ∷ t)
          (p.0 ∙ ap (λ (t : List (List ℕ)). a.0.0.0 ∷ decimal a.0.0.1 ∷ t) (r.0 ∙ ap (λ (t : List (List ℕ)). decimal b.0.0 ∷ t) z.0)),
      (p.1, p.2, r.1),
    )

request_found : (v : Verb) (words : List (List ℕ)) (q : Request) → request_at v words ≡ Some q → Spells v words q
request_found verb.Announce words q e = announce_found words q e
request_found verb.Release words q e = release_found words q e
request_found verb.Sell words q e = sell_found words q e
request_found verb.Refund words q e = refund_found words q e
request_found verb.Cede words q e = cede_found words q e

numbered_found : (v : Verb) (words : List (List ℕ)) (x : ℕ × Request) → numbered_at v words ≡ Some x → (verb_word v ∷ words ≡ request_words x.0 x.1)
    × IsValue x.0 × IsRequest x.1
unfolding numbered_at
numbered_found v words x e =
    let a = bind_some (natural_at words) (λ n. request_at v n.1 >>= λ q. Some (n.0, q)) x e in
    let b = bind_some (request_at v a.0.1) (λ q. Some (a.0.0, q)) x a.2 in
    let p = value_at_found words a.0 a.1 in
    let r = request_found v a.0.1 b.0 b.1 in
    subst (λ (y : ℕ × Request). (verb_word v ∷ words ≡ request_words y.0 y.1) × IsValue y.0 × IsRequest y.1) (same_Some (a.0.0, b.0) x b.2)
    (ap (λ (t : List (List ℕ)). verb_word v ∷ t) p.0 ∙ r.0 a.0.0, p.1, r.1)

-- a request that begins with a word
pub request_from_found : (word : List ℕ) (words : List (List ℕ)) (x : ℕ × Request) → request_from word words ≡ Some x
    → (word ∷ words ≡ request_words x.0 x.1) × IsValue x.0 × IsRequest x.1
unfolding request_from
request_from_found word words x e =
    let a = bind_some (verb_of word) (λ v. numbered_at v words) x e in
    let p = numbered_found a.0 words x a.2 in
    (ap (λ (w : List ℕ). w ∷ words) (verb_found word a.0 a.1) ∙ p.0, p.1, p.2)

-- ---- back

sized_again : (e : List ℕ) (a : ℕ) (ws : List (List ℕ)) → IsEventName e → IsValue a → sized_at (e ∷ decimal a ∷ ws) ≡ Some ((e, a), ws)
unfolding sized_at
sized_again e a ws h g = rw (event_again e (decimal a ∷ ws) h, value_again a ws g) refl

part_again : (part : Option ℕ) → IsPart part → part_at (part_words part) ≡ Some part
unfolding part_at last_amount_at
part_again None h = refl
part_again (Some a) h = rw (value_again a [] h) refl

request_again : (q : Request) → IsRequest q → request_at (request_verb q) (operands q) ≡ Some q
unfolding announce_at release_at sell_at refund_at cede_at
request_again (Announce e) h = rw (event_again e [] h) refl
request_again (Release e a) h = rw (sized_again e a [] h.0 h.1) refl
request_again (Sell e a) h = rw (sized_again e a [] h.0 h.1) refl
request_again (Refund s part) h = rw (value_again s (part_words part) h.0, part_again part h.1) refl
request_again (Cede e to a) h = rw (sized_again e a (decimal to ∷ []) h.0 h.1, site_again to [] h.2) refl

numbered_again : (n : ℕ) (q : Request) → IsValue n → IsRequest q → numbered_at (request_verb q) (decimal n ∷ operands q) ≡ Some (n, q)
unfolding numbered_at
numbered_again n q h g = rw (value_again n (operands q) h, request_again q g) refl

pub request_from_again : (n : ℕ) (q : Request) → IsValue n → IsRequest q → request_from (verb_word (request_verb q)) (decimal n ∷ operands q) ≡ Some (n, q)
unfolding request_from
request_from_again n q h g = rw (verb_again (request_verb q)) (numbered_again n q h g)

-- no word has a space
abbrev pub LackSpaces : List (List ℕ) → Type 0
LackSpaces words = AllByRecursion (λ w. lacks_space w ≡ true) words

pub request_lacks : (n : ℕ) (q : Request) → IsValue n → IsRequest q → LackSpaces (request_words n q)
request_lacks n (Announce e) h g = (refl, (value_lacks_space n h, (name_lacks_space e g, tt)))
request_lacks n (Release e a) h g = (refl, (value_lacks_space n h, (name_lacks_space e g.0, (value_lacks_space a g.1, tt))))
request_lacks n (Sell e a) h g = (refl, (value_lacks_space n h, (name_lacks_space e g.0, (value_lacks_space a g.1, tt))))
request_lacks n (Refund s None) h g = (refl, (value_lacks_space n h, (value_lacks_space s g.0, tt)))
request_lacks n (Refund s (Some a)) h g = (refl, (value_lacks_space n h, (value_lacks_space s g.0, (value_lacks_space a g.1, tt))))
request_lacks n (Cede e to a) h g = (refl, (value_lacks_space n h, (name_lacks_space e g.0, (value_lacks_space a g.1, (site_lacks_space to g.2, tt)))))

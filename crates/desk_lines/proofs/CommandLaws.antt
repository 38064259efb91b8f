-- The same laws for a line that begins with a command.
use Rattle.std.proofs.Common.{◌≡◌, ℕ, Bool, true, false, cond, List, [], ◌∷◌, Option, Some, None, refl, sym, ap, subst, ◌∙◌, arith, inl, inr, codes, lit<}
use Rattle.std.specs.Str.{bytes_eq}
use Rattle.std.specs.Fmt.{decimal}
use Rattle.std.proofs.lemmas.Bool.{cases_Bool}
use Rattle.std.proofs.lemmas.Slice.Eq.{bytes_eq-Decides}
use Rattle.std.proofs.lemmas.Option.{same_Some}
use Rattle.rights_lattice.specs.Limits.{greatest_site, most_sites, IsSite}
use Rattle.request_ledger.specs.declared.verb.Verb.{Verb}
use Rattle.request_ledger.specs.declared.verb.Verb.TheVariants as verb
use Rattle.request_ledger.specs.Words.{verb_word, request_verb}
use Rattle.plain_words.specs.Words.{first_word, ended, ◌>>=◌}
use Rattle.plain_words.specs.Number.{number_of}
use Rattle.plain_words.proofs.WordLaws.{lacks_space, bind_some, word_tested, word_found, ended_found}
use Rattle.plain_words.proofs.NumberLaws.{number_at_found, number_at_again, decimal_lacks_space}
use Rattle.delta_wire.specs.Fields.{site_at}
use Rattle.delta_wire.proofs.FieldLaws.{site_at_found, site_again}
use Rattle.world_steps.specs.declared.step.Input.{Input}
use Rattle.world_steps.specs.declared.step.Input.TheVariants as input
use Rattle.world_steps.specs.declared.step.Step.TheVariants as step
use Rattle.desk_lines.specs.declared.script.ScriptLine.{ScriptLine}
use Rattle.desk_lines.specs.declared.script.ScriptLine.TheVariants.{Make}
use Rattle.desk_lines.specs.declared.script_commands.Command.{Command}
use Rattle.desk_lines.specs.declared.script_commands.Command.TheVariants as command
use Rattle.desk_lines.specs.Grammar.{greatest_index, input_words, stored_text, script_words, IsIndex, IsInput, IsScriptLine, IsSites}
use Rattle.desk_lines.specs.Requests.{request_from}
use Rattle.desk_lines.specs.Commands.{command_text, command_of, index_at, sites_at, stored_of, stored_at, take_at, grow_input_at, request_input_of, input_at, send_at, deliver_at, restart_at, grow_at, stop_at, after_command, commanded}
use Rattle.desk_lines.proofs.RequestLaws.{request_from_found, request_from_again, LackSpaces, request_lacks}

-- ---- commands

pub command_again : (c : Command) → command_of (command_text c) ≡ Some c
unfolding command_of
command_again command.Send = refl
command_again command.Deliver = refl
command_again command.Restart = refl
command_again command.Grow = refl
command_again command.Stop = refl

-- no command is a number
pub command_is_no_number : (c : Command) → number_of 0 greatest_site (command_text c) ≡ None
unfolding number_of
command_is_no_number command.Send = refl
command_is_no_number command.Deliver = refl
command_is_no_number command.Restart = refl
command_is_no_number command.Grow = refl
command_is_no_number command.Stop = refl

command_found : (w : List ℕ) (c : Command) → command_of w ≡ Some c → w ≡ command_text c
unfolding command_of
command_found w c e =
    word_tested command_text w command.Send c _
    (word_tested command_text w command.Deliver c _
    (word_tested command_text w command.Restart c _
    (word_tested command_text w command.Grow c _ (word_tested command_text w command.Stop c None (λ n. absurd cc))))) e

stored_again : (b : Bool) → stored_of (stored_text b) ≡ Some b
unfolding stored_of
stored_again true = refl
stored_again false = refl

stored_found : (w : List ℕ) (b : Bool) → stored_of w ≡ Some b → w ≡ stored_text b
unfolding stored_of
stored_found w b e = word_tested stored_text w true b _ (word_tested stored_text w false b None (λ n. absurd cc)) e

stored_at_found : (words : List (List ℕ)) (x : Bool × List (List ℕ)) → stored_at words ≡ Some x → words ≡ stored_text x.0 ∷ x.1
unfolding stored_at
stored_at_found words x e =
    let a = bind_some (first_word words) (λ w. stored_of w.0 >>= λ b. Some (b, w.1)) x e in
    let b = bind_some (stored_of a.0.0) (λ b. Some (b, a.0.1)) x a.2 in
    word_found words a.0 a.1 ∙ ap (λ (w : List ℕ). w ∷ a.0.1) (stored_found a.0.0 b.0 b.1)
    ∙ ap (λ (p : Bool × List (List ℕ)). stored_text p.0 ∷ p.1) (same_Some (b.0, a.0.1) x b.2)

-- the words are those of the input
abbrev SpellsInput : List (List ℕ) → Input → Type 0
SpellsInput words x = (words ≡ input_words x) × IsInput x

take_found : (words : List (List ℕ)) (x : Input) → take_at words ≡ Some x → SpellsInput (codes "deliver" ∷ words) x
unfolding take_at
take_found words x e =
    let a = bind_some (index_at words) (λ k. ended (input.Take k.0) k.1) x e in
    let p = number_at_found 0 greatest_index words a.0 (lit< tt) a.1 in
    let z = ended_found (input.Take a.0.0) x a.0.1 a.2 in
    subst (SpellsInput (codes "deliver" ∷ words)) z.1
    (ap (λ (t : List (List ℕ)). codes "deliver" ∷ t) (p.0 ∙ ap (λ (t : List (List ℕ)). decimal a.0.0 ∷ t) z.0), p.2)

grow_input_found : (words : List (List ℕ)) (x : Input) → grow_input_at words ≡ Some x → SpellsInput (codes "grow" ∷ words) x
unfolding grow_input_at
grow_input_found words x e =
    let a = bind_some (sites_at words) (λ n. ended (input.Grow n.0) n.1) x e in
    let p = number_at_found 1 most_sites words a.0 (lit< tt) a.1 in
    let z = ended_found (input.Grow a.0.0) x a.0.1 a.2 in
    subst (SpellsInput (codes "grow" ∷ words)) z.1 (
      ap (λ (t : List (List ℕ)). codes "grow" ∷ t) (p.0 ∙ ap (λ (t : List (List ℕ)). decimal a.0.0 ∷ t) z.0),
      (p.1, p.2),
    )

request_input_found : (word : List ℕ) (words : List (List ℕ)) (x : Input) → request_input_of word words ≡ Some x → SpellsInput (word ∷ words) x
unfolding request_input_of
request_input_found word words x e =
    let a = bind_some (request_from word words) (λ n. Some (input.Request n.0 n.1)) x e in
    let p = request_from_found word words a.0 a.1 in
    subst (SpellsInput (word ∷ words)) (same_Some (input.Request a.0.0 a.0.1) x a.2) (p.0, (p.1, p.2))

input_found : (words : List (List ℕ)) (x : Input) → input_at words ≡ Some x → SpellsInput words x
unfolding input_at
input_found words x e =
    let a = bind_some (first_word words) (λ w. input_behind w.0 w.1) x e in
    subst (λ (ws : List (List ℕ)). SpellsInput ws x) (sym (word_found words a.0 a.1)) (which a.0.0 a.0.1 a.2)
  where
    grown_or_asked : List ℕ → List (List ℕ) → Option Input
    grown_or_asked w ws = cond (bytes_eq w (codes "grow")) (grow_input_at ws) (request_input_of w ws)

    input_behind : List ℕ → List (List ℕ) → Option Input
    input_behind w ws = cond (bytes_eq w (codes "deliver")) (take_at ws) (grown_or_asked w ws)

    grows_or_asks : (w : List ℕ) (ws : List (List ℕ)) → grown_or_asked w ws ≡ Some x → SpellsInput (w ∷ ws) x
    grows_or_asks w ws h = elim (cases_Bool (bytes_eq w (codes "grow"))) [
      | inl same ↦ let chosen : grow_input_at ws ≡ Some x = rw same at h in subst (λ (v : List ℕ). SpellsInput (v ∷ ws) x)
          (sym ((bytes_eq-Decides w (codes "grow")).0 same)) (grow_input_found ws x chosen)
      | inr other ↦ let chosen : request_input_of w ws ≡ Some x = rw other at h in request_input_found w ws x chosen
    ]

    which : (w : List ℕ) (ws : List (List ℕ)) → input_behind w ws ≡ Some x → SpellsInput (w ∷ ws) x
    which w ws h = elim (cases_Bool (bytes_eq w (codes "deliver"))) [
      | inl same ↦ let chosen : take_at ws ≡ Some x = rw same at h in subst (λ (v : List ℕ). SpellsInput (v ∷ ws) x)
          (sym ((bytes_eq-Decides w (codes "deliver")).0 same)) (take_found ws x chosen)
      | inr other ↦ let chosen : grown_or_asked w ws ≡ Some x = rw other at h in grows_or_asks w ws chosen
    ]

-- ---- lines that begin with a command

-- the words are those of the line
abbrev pub SpellsWhole : List (List ℕ) → ScriptLine → Type 0
SpellsWhole words l = (words ≡ script_words l) × IsScriptLine l

send_found : (words : List (List ℕ)) (l : ScriptLine) → send_at words ≡ Some l → SpellsWhole (codes "send" ∷ words) l
unfolding send_at
send_found words l e =
    let a = bind_some (site_at words) (λ i. site_at i.1 >>= λ j. ended (Make (step.Send i.0 j.0)) j.1) l e in
    let b = bind_some (site_at a.0.1) (λ j. ended (Make (step.Send a.0.0 j.0)) j.1) l a.2 in
    let p = site_at_found words a.0 a.1 in
    let q = site_at_found a.0.1 b.0 b.1 in
    let z = ended_found (Make (step.Send a.0.0 b.0.0)) l b.0.1 b.2 in
    subst (SpellsWhole (codes "send" ∷ words)) z.1 (
      ap (λ (t : List (List ℕ)). codes "send" ∷ t)
          (p.0 ∙ ap (λ (t : List (List ℕ)). decimal a.0.0 ∷ t) (q.0 ∙ ap (λ (t : List (List ℕ)). decimal b.0.0 ∷ t) z.0)),
      (p.1, q.1),
    )

deliver_found : (words : List (List ℕ)) (l : ScriptLine) → deliver_at words ≡ Some l → SpellsWhole (codes "deliver" ∷ words) l
unfolding deliver_at
deliver_found words l e =
    let a = bind_some (index_at words) (λ k. ended (Make (step.Deliver k.0)) k.1) l e in
    let p = number_at_found 0 greatest_index words a.0 (lit< tt) a.1 in
    let z = ended_found (Make (step.Deliver a.0.0)) l a.0.1 a.2 in
    subst (SpellsWhole (codes "deliver" ∷ words)) z.1
    (ap (λ (t : List (List ℕ)). codes "deliver" ∷ t) (p.0 ∙ ap (λ (t : List (List ℕ)). decimal a.0.0 ∷ t) z.0), p.2)

restart_found : (words : List (List ℕ)) (l : ScriptLine) → restart_at words ≡ Some l → SpellsWhole (codes "restart" ∷ words) l
unfolding restart_at
restart_found words l e =
    let a = bind_some (site_at words) (λ i. ended (Make (step.Restart i.0)) i.1) l e in
    let p = site_at_found words a.0 a.1 in
    let z = ended_found (Make (step.Restart a.0.0)) l a.0.1 a.2 in
    subst (SpellsWhole (codes "restart" ∷ words)) z.1
    (ap (λ (t : List (List ℕ)). codes "restart" ∷ t) (p.0 ∙ ap (λ (t : List (List ℕ)). decimal a.0.0 ∷ t) z.0), p.1)

grow_found : (words : List (List ℕ)) (l : ScriptLine) → grow_at words ≡ Some l → SpellsWhole (codes "grow" ∷ words) l
unfolding grow_at
grow_found words l e =
    let a = bind_some (site_at words) (λ i. sites_at i.1 >>= λ n. ended (Make (step.Grow i.0 n.0)) n.1) l e in
    let b = bind_some (sites_at a.0.1) (λ n. ended (Make (step.Grow a.0.0 n.0)) n.1) l a.2 in
    let p = site_at_found words a.0 a.1 in
    let q = number_at_found 1 most_sites a.0.1 b.0 (lit< tt) b.1 in
    let z = ended_found (Make (step.Grow a.0.0 b.0.0)) l b.0.1 b.2 in
    subst (SpellsWhole (codes "grow" ∷ words)) z.1 (
      ap (λ (t : List (List ℕ)). codes "grow" ∷ t)
          (p.0 ∙ ap (λ (t : List (List ℕ)). decimal a.0.0 ∷ t) (q.0 ∙ ap (λ (t : List (List ℕ)). decimal b.0.0 ∷ t) z.0)),
      (p.1, (q.1, q.2)),
    )

stop_found : (words : List (List ℕ)) (l : ScriptLine) → stop_at words ≡ Some l → SpellsWhole (codes "stop" ∷ words) l
unfolding stop_at
stop_found words l e =
    let a = bind_some (site_at words) (λ i. stored_at i.1 >>= λ b. input_at b.1 >>= λ x. Some (Make (step.Stop i.0 x b.0))) l e in
    let b = bind_some (stored_at a.0.1) (λ b. input_at b.1 >>= λ x. Some (Make (step.Stop a.0.0 x b.0))) l a.2 in
    let d = bind_some (input_at b.0.1) (λ x. Some (Make (step.Stop a.0.0 x b.0.0))) l b.2 in
    let p = site_at_found words a.0 a.1 in
    let q = stored_at_found a.0.1 b.0 b.1 in
    let r = input_found b.0.1 d.0 d.1 in
    subst (SpellsWhole (codes "stop" ∷ words)) (same_Some (Make (step.Stop a.0.0 d.0 b.0.0)) l d.2) (
      ap (λ (t : List (List ℕ)). codes "stop" ∷ t)
          (p.0 ∙ ap (λ (t : List (List ℕ)). decimal a.0.0 ∷ t) (q ∙ ap (λ (t : List (List ℕ)). stored_text b.0.0 ∷ t) r.0)),
      (p.1, r.1),
    )

after_command_found : (c : Command) (words : List (List ℕ)) (l : ScriptLine) → after_command c words ≡ Some l → SpellsWhole (command_text c ∷ words) l
after_command_found command.Send words l e = send_found words l e
after_command_found command.Deliver words l e = deliver_found words l e
after_command_found command.Restart words l e = restart_found words l e
after_command_found command.Grow words l e = grow_found words l e
after_command_found command.Stop words l e = stop_found words l e

pub commanded_found : (word : List ℕ) (words : List (List ℕ)) (l : ScriptLine) → commanded word words ≡ Some l → SpellsWhole (word ∷ words) l
unfolding commanded
commanded_found word words l e =
    let a = bind_some (command_of word) (λ c. after_command c words) l e in
    let r = after_command_found a.0 words l a.2 in
    (ap (λ (w : List ℕ). w ∷ words) (command_found word a.0 a.1) ∙ r.0, r.1)

-- ---- back

pub index_again : (k : ℕ) (ws : List (List ℕ)) → IsIndex k → index_at (decimal k ∷ ws) ≡ Some (k, ws)
index_again k ws h = number_at_again 0 greatest_index k ws (lit< tt) (omega arith) h

pub count_again : (n : ℕ) (ws : List (List ℕ)) → IsSites n → sites_at (decimal n ∷ ws) ≡ Some (n, ws)
count_again n ws h = number_at_again 1 most_sites n ws (lit< tt) h.0 h.1

-- no verb of a request is `deliver` or `grow`
verb_is_no_deliver : (v : Verb) → bytes_eq (verb_word v) (codes "deliver") ≡ false
verb_is_no_deliver verb.Announce = refl
verb_is_no_deliver verb.Release = refl
verb_is_no_deliver verb.Sell = refl
verb_is_no_deliver verb.Refund = refl
verb_is_no_deliver verb.Cede = refl

verb_is_no_grow : (v : Verb) → bytes_eq (verb_word v) (codes "grow") ≡ false
verb_is_no_grow verb.Announce = refl
verb_is_no_grow verb.Release = refl
verb_is_no_grow verb.Sell = refl
verb_is_no_grow verb.Refund = refl
verb_is_no_grow verb.Cede = refl

input_again : (x : Input) → IsInput x → input_at (input_words x) ≡ Some x
unfolding input_at take_at grow_input_at request_input_of
input_again (input.Take k) h = rw (index_again k [] h) refl
input_again (input.Grow n) h = rw (count_again n [] h) refl
input_again (input.Request n q) h = rw (verb_is_no_deliver (request_verb q), verb_is_no_grow (request_verb q), request_from_again n q h.0 h.1) refl

stored_at_again : (b : Bool) (ws : List (List ℕ)) → stored_at (stored_text b ∷ ws) ≡ Some (b, ws)
unfolding stored_at
stored_at_again b ws = rw (stored_again b) refl

pub stop_again : (i : ℕ) (x : Input) (b : Bool) → IsSite i → IsInput x → stop_at (decimal i ∷ stored_text b ∷ input_words x) ≡ Some (Make (step.Stop i x b))
unfolding stop_at
stop_again i x b h g = rw (site_again i (stored_text b ∷ input_words x) h, stored_at_again b (input_words x), input_again x g) refl

pub index_lacks : (k : ℕ) → IsIndex k → lacks_space (decimal k) ≡ true
index_lacks k h = decimal_lacks_space k (omega arith)

pub count_lacks : (n : ℕ) → IsSites n → lacks_space (decimal n) ≡ true
count_lacks n h = decimal_lacks_space n (omega (arith, h.1))

pub stored_lacks : (b : Bool) → lacks_space (stored_text b) ≡ true
stored_lacks true = refl
stored_lacks false = refl

pub input_lacks : (x : Input) → IsInput x → LackSpaces (input_words x)
input_lacks (input.Request n q) h = request_lacks n q h.0 h.1
input_lacks (input.Take k) h = (refl, (index_lacks k h, tt))
input_lacks (input.Grow n) h = (refl, (count_lacks n h, tt))

-- The two laws of a script line: what is read is spelled so, and what is spelled so is read.
use Rattle.std.proofs.Common.{◌≡◌, ℕ, ◌≤◌, ◌<◌, ◌^◌, Bool, true, false, cond, List, [], ◌∷◌, Option, Some, None, refl, sym, ap, subst, ◌∙◌, arith, codes, lit<}
use Rattle.std.specs.Prelude.{IfSome}
use Rattle.std.specs.Str.{bytes_eq}
use Rattle.std.specs.Fmt.{decimal}
use Rattle.std.specs.List.{slice_split, join_with_byte}
use Rattle.std.proofs.lemmas.Slice.Eq.{bytes_eq-Decides}
use Rattle.std.proofs.lemmas.List.Splits.{join_with_byte-slice_split}
use Rattle.std.proofs.lemmas.Option.{same_Some}
use Rattle.plain_words.specs.Words.{first_word, is_space, ended, ◌>>=◌}
use Rattle.plain_words.specs.Number.{number_of, number_at}
use Rattle.plain_words.proofs.WordLaws.{lacks_space, split_join, bind_some, word_found, ended_found}
use Rattle.plain_words.proofs.NumberLaws.{number_found, number_again, number_at_found, number_at_again, decimal_lacks_space}
use Rattle.rights_lattice.specs.Limits.{greatest_site, IsSite}
use Rattle.delta_wire.proofs.FieldLaws.{site_again, site_lacks_space}
use Rattle.delta_wire.proofs.Names.{name_lacks_space}
use Rattle.world_steps.specs.declared.step.Step.TheVariants as step
use Rattle.desk_lines.specs.declared.script.ScriptLine.{ScriptLine}
use Rattle.desk_lines.specs.declared.script.ScriptLine.TheVariants.{Make, Left, Totals}
use Rattle.desk_lines.specs.declared.line.Line.{Line}
use Rattle.desk_lines.specs.declared.line.Line.TheVariants as line
use Rattle.desk_lines.specs.declared.script_commands.Command.{Command}
use Rattle.desk_lines.specs.declared.script_commands.Command.TheVariants as command
use Rattle.desk_lines.specs.Grammar.{request_words, session_words, input_words, stored_text, script_words, script_text, IsSessionLine, IsScriptLine}
use Rattle.desk_lines.specs.Commands.{command_text, send_at, deliver_at, restart_at, grow_at, after_command, commanded}
use Rattle.desk_lines.specs.Reading.{asked_in, at_a_site, line_at_site, after_first, line_of_words, line_of, named_number}
use Rattle.desk_lines.proofs.RequestLaws.{request_lacks}
use Rattle.desk_lines.proofs.SessionLaws.{asked_found, ask_again, left_again, totals_again}
use Rattle.desk_lines.proofs.CommandLaws.{SpellsWhole, command_again, command_is_no_number, commanded_found, index_again, count_again, stop_again, index_lacks, count_lacks, stored_lacks, input_lacks}

-- ---- lines to a site

-- what a session line asks, asked of a site
asked_at_found : (i : ℕ) (l : Line) (s : ScriptLine) → IsSite i → at_a_site i l ≡ Some s → IsSessionLine l → SpellsWhole (decimal i ∷ session_words l) s
asked_at_found i (line.Ask n q) s site e fits = subst (SpellsWhole (decimal i ∷ request_words n q)) (same_Some (Make (step.Ask i n q)) s e)
    (refl, (site, fits.0, fits.1))
asked_at_found i (line.Left v) s site e fits = subst (SpellsWhole (decimal i ∷ codes "left" ∷ v ∷ [])) (same_Some (Left i v) s e) (refl, (site, fits))
asked_at_found i (line.Totals v) s site e fits = subst (SpellsWhole (decimal i ∷ codes "totals" ∷ v ∷ [])) (same_Some (Totals i v) s e) (refl, (site, fits))
asked_at_found i line.Quit s site e fits = absurd cc

at_site_found : (i : ℕ) (words : List (List ℕ)) (s : ScriptLine) → IsSite i → line_at_site i words ≡ Some s → SpellsWhole (decimal i ∷ words) s
unfolding line_at_site
at_site_found i words s site e =
    let a = bind_some (asked_in words) (λ l. at_a_site i l) s e in
    let p = asked_found words a.0 a.1 in
    let r = asked_at_found i a.0 s site a.2 p.1 in
    (ap (λ (t : List (List ℕ)). decimal i ∷ t) p.0 ∙ r.0, r.1)

-- ---- lines

after_first_found : (o : Option ℕ) (word : List ℕ) (words : List (List ℕ)) (l : ScriptLine) → number_of 0 greatest_site word ≡ o
    → after_first o word words ≡ Some l → SpellsWhole (word ∷ words) l
after_first_found None word words l given e = commanded_found word words l e
after_first_found (Some i) word words l given e =
    let p = number_found 0 greatest_site word i (lit< tt) given in
    let r = at_site_found i words l p.2 e in
    (ap (λ (w : List ℕ). w ∷ words) p.0 ∙ r.0, r.1)

line_found : (words : List (List ℕ)) (l : ScriptLine) → line_of_words words ≡ Some l → SpellsWhole words l
unfolding line_of_words
line_found words l e =
    let a = bind_some (first_word words) (λ w. after_first (number_of 0 greatest_site w.0) w.0 w.1) l e in
    let r = after_first_found (number_of 0 greatest_site a.0.0) a.0.0 a.0.1 l refl a.2 in
    (word_found words a.0 a.1 ∙ r.0, r.1)

-- what is read is spelled so
pub line_takes : (bytes : List ℕ) (l : ScriptLine) → line_of bytes ≡ Some l → IsScriptLine l × (bytes ≡ script_text l)
unfolding script_text
line_takes bytes l e =
    let f = line_found (slice_split is_space bytes) l e in
    (f.1, sym (join_with_byte-slice_split 32 bytes) ∙ ap (join_with_byte 32) f.0)

-- ---- back

first_again : (i : ℕ) → IsSite i → number_of 0 greatest_site (decimal i) ≡ Some i
first_again i h = number_again 0 greatest_site i (lit< tt) (omega arith) h

-- after a command come the words of its line
command_line_again : (c : Command) (words : List (List ℕ)) → line_of_words (command_text c ∷ words) ≡ after_command c words
unfolding line_of_words commanded
command_line_again c words = rw (command_is_no_number c, command_again c) refl

line_again : (l : ScriptLine) → IsScriptLine l → line_of_words (script_words l) ≡ Some l
unfolding line_of_words line_at_site send_at deliver_at restart_at grow_at
line_again (Make (step.Ask i n q)) h = rw (first_again i h.0, ask_again n q h.1 h.2) refl
line_again (Make (step.Send i j)) h = command_line_again command.Send (decimal i ∷ decimal j ∷ [])
    ∙ rw (site_again i (decimal j ∷ []) h.0, site_again j [] h.1) refl
line_again (Make (step.Deliver k)) h = command_line_again command.Deliver (decimal k ∷ []) ∙ rw (index_again k [] h) refl
line_again (Make (step.Restart i)) h = command_line_again command.Restart (decimal i ∷ []) ∙ rw (site_again i [] h) refl
line_again (Make (step.Grow i n)) h = command_line_again command.Grow (decimal i ∷ decimal n ∷ [])
    ∙ rw (site_again i (decimal n ∷ []) h.0, count_again n [] h.1) refl
line_again (Make (step.Stop i x b)) h = command_line_again command.Stop (decimal i ∷ stored_text b ∷ input_words x) ∙ stop_again i x b h.0 h.1
line_again (Left i e) h = rw (first_again i h.0, left_again e h.1) refl
line_again (Totals i e) h = rw (first_again i h.0, totals_again e h.1) refl

line_splits : (l : ScriptLine) → IsScriptLine l → slice_split is_space (join_with_byte 32 (script_words l)) ≡ script_words l
line_splits (Make (step.Ask i n q)) h = split_join _ (request_words n q) (site_lacks_space i h.0) (request_lacks n q h.1 h.2)
line_splits (Make (step.Send i j)) h = split_join _ (decimal i ∷ decimal j ∷ []) refl (site_lacks_space i h.0, (site_lacks_space j h.1, tt))
line_splits (Make (step.Deliver k)) h = split_join _ (decimal k ∷ []) refl (index_lacks k h, tt)
line_splits (Make (step.Restart i)) h = split_join _ (decimal i ∷ []) refl (site_lacks_space i h, tt)
line_splits (Make (step.Grow i n)) h = split_join _ (decimal i ∷ decimal n ∷ []) refl (site_lacks_space i h.0, (count_lacks n h.1, tt))
line_splits (Make (step.Stop i x b)) h = split_join _ (decimal i ∷ stored_text b ∷ input_words x) refl
    (site_lacks_space i h.0, (stored_lacks b, input_lacks x h.1))
line_splits (Left i e) h = split_join _ (codes "left" ∷ e ∷ []) (site_lacks_space i h.0) (refl, (name_lacks_space e h.1, tt))
line_splits (Totals i e) h = split_join _ (codes "totals" ∷ e ∷ []) (site_lacks_space i h.0) (refl, (name_lacks_space e h.1, tt))

-- what is spelled so is read
pub line_reads : (l : ScriptLine) → IsScriptLine l → line_of (script_text l) ≡ Some l
unfolding script_text
line_reads l h = ap line_of_words (line_splits l h) ∙ line_again l h

-- ---- a name and its number

-- The readers for one name.
pub named_takes : (name : List ℕ) (high : ℕ) (bytes : List ℕ) (n : ℕ) → high < 2 ^ 64 → named_number name high (slice_split is_space bytes) ≡ Some n
    → ((1 ≤ n) × (n ≤ high)) × (bytes ≡ join_with_byte 32 (name ∷ decimal n ∷ []))
unfolding named_number
named_takes name high bytes n bound e =
    let words = slice_split is_space bytes in
    let a = bind_some (first_word words) (λ w. cond (bytes_eq w.0 name) (number_at 1 high w.1) None >>= λ m. ended m.0 m.1) n e in
    let b = bind_some (cond (bytes_eq a.0.0 name) (number_at 1 high a.0.1) None) (λ m. ended m.0 m.1) n a.2 in
    let t = chosen (bytes_eq a.0.0 name) (number_at 1 high a.0.1) b.0 b.1 in
    let p = number_at_found 1 high a.0.1 b.0 bound t.1 in
    let z = ended_found b.0.0 n b.0.1 b.2 in
    let spelled : words ≡ name ∷ decimal n ∷ [] =
    word_found words a.0 a.1 ∙ ap (λ (w : List ℕ). w ∷ a.0.1) ((bytes_eq-Decides a.0.0 name).0 t.0)
    ∙ ap (λ (ws : List (List ℕ)). name ∷ ws) (p.0 ∙ ap (λ (ws : List (List ℕ)). decimal b.0.0 ∷ ws) z.0 ∙ ap (λ (m : ℕ). decimal m ∷ []) z.1) in
    ((omega (arith, p.1, z.1), omega (arith, p.2, z.1)), sym (join_with_byte-slice_split 32 bytes) ∙ ap (join_with_byte 32) spelled)
  where
    chosen : (t : Bool) (o : Option (ℕ × List (List ℕ))) (x : ℕ × List (List ℕ)) → cond t o None ≡ Some x → (t ≡ true) × (o ≡ Some x)
    chosen true o x h = (refl, h)
    chosen false o x h = absurd cc

pub named_reads : (name : List ℕ) (high n : ℕ) → high < 2 ^ 64 → lacks_space name ≡ true → 1 ≤ n → n ≤ high
    → named_number name high (slice_split is_space (join_with_byte 32 (name ∷ decimal n ∷ []))) ≡ Some n
unfolding named_number
named_reads name high n bound lacks low fits =
    let itself : bytes_eq name name ≡ true = (bytes_eq-Decides name name).1 refl in
    rw (split_join name (decimal n ∷ []) lacks (decimal_lacks_space n (omega arith), tt), itself, number_at_again 1 high n [] bound low fits) refl

-- both, of whatever read it
pub named_exactly : (name : List ℕ) (high : ℕ) (bytes : List ℕ) (r : Option ℕ) → high < 2 ^ 64 → lacks_space name ≡ true
    → r ≡ named_number name high (slice_split is_space bytes)
    → IfSome r (λ n. ((1 ≤ n) × (n ≤ high)) × (bytes ≡ join_with_byte 32 (name ∷ decimal n ∷ [])))
    × ((n : ℕ) → (1 ≤ n) × (n ≤ high) → bytes ≡ join_with_byte 32 (name ∷ decimal n ∷ []) → r ≡ Some n)
named_exactly name high bytes r bound lacks e
    = (
      found r e,
      λ n fits spelled. e ∙ ap (λ (t : List ℕ). named_number name high (slice_split is_space t)) spelled
          ∙ named_reads name high n bound lacks fits.0 fits.1,
    )
  where
    found : (r : Option ℕ) → r ≡ named_number name high (slice_split is_space bytes)
        → IfSome r (λ n. ((1 ≤ n) × (n ≤ high)) × (bytes ≡ join_with_byte 32 (name ∷ decimal n ∷ [])))
    found None e = tt
    found (Some n) e = named_takes name high bytes n bound (sym e)

-- The links of the last site are settled, then those of the sites before it; and what went through them is told, link by link.
use Rattle.std.proofs.Common.{◌≡◌, ℕ, zero, suc, ◌+◌, ◌<◌, ◌≤◌, true, false, List, [], ◌∷◌, ◌++◌, length, get_or, take, drop, refl, sym, ap, ◌∙◌, subst, arith, append_assoc}
use Rattle.std.specs.Prelude.{All, map, slice_index, slice_index_or}
use mathlib.Core.List.{IsPrefix}
use Rattle.std.specs.List.{flat_map}
use Rattle.std.proofs.lemmas.List.{length_push, length-map, map-append, length-append, length-drop, take-append-drop, length-take-le, same_from_push}
use Rattle.std.proofs.lemmas.List.Elements.{All-append, All-cons, All-nil, All-head, All-tail, All-push, All-same, All-weaker, All-get_or}
use Rattle.session_server.specs.declared.peer.PeerEnd.{PeerEnd}
use Rattle.session_server.specs.declared.settling.Through.{Through}
use Rattle.session_server.specs.declared.settling.Went.{Went}
use Rattle.session_server.specs.declared.site.LinkEnd.{LinkEnd}
use Rattle.session_server.specs.LinkNames.{both, first_links, link_names, link_name_of}
use Rattle.session_server.specs.Mesh.{AreInTurn, AreJoined, CameTo, IsMesh, each_with, linkage_left, others_of, rows_of}
use Rattle.session_server.specs.Settled.{AreAcknowledged, WentInOrder, AreSettled, AreLinksTold, EndsJoined, GotFirst, IsAcknowledged, IsCounted, IsLeftOfNew, IsSettledWith, both_went, ends_to, first_ends, link_end, link_ends, went}
use Rattle.session_server.proofs.Meshes.{Undone, left_before, undone}
use Rattle.session_server.proofs.Rows.{All-pushed, all_before, all_each, each_push, full_rows, length_rows, mapped_push, map_after}

-- of a link no more was refused than was got, no more got than put, and no more put than there were rounds
abbrev IsBounded : ℕ → LinkEnd → Type 0
IsBounded rounds link = IsCounted link × (link.put ≤ rounds)

abbrev ThroughBounded : ℕ → Through → Type 0
ThroughBounded rounds t = ((t.refused ≤ t.got) × (t.got ≤ t.put)) × (t.put ≤ rounds)

-- the same of both links from a site to another
abbrev WentBounded : ℕ → Went → Type 0
WentBounded rounds w = ThroughBounded rounds w.deltas × ThroughBounded rounds w.acks

-- the last row, and the mesh of those before it
pub last_undone : {R : Type 0} (items : R → List PeerEnd) (ends rest : List R) (last : R) → ends ≡ rest ++ last ∷ []
    → IsMesh (map (λ r. map linkage_left (items r)) ends)
    → Undone (map (λ r. map linkage_left (items r)) rest) (map linkage_left (items last))
last_undone items ends rest last e m =
    undone (map (λ r. map linkage_left (items r)) rest) (map linkage_left (items last))
    (subst IsMesh (mapped_push (λ r. map linkage_left (items r)) ends rest last e) m)

pub mesh_left : {R : Type 0} (items : R → List PeerEnd) (rest fronts : List R) (last : List PeerEnd) (told : List (Went × Went))
    → Undone (map (λ r. map linkage_left (items r)) rest) (map linkage_left last)
    → IsSettledWith (map items rest) last (map items fronts) told → IsMesh (map (λ r. map linkage_left (items r)) fronts)
mesh_left items rest fronts last told u s =
    let came = subst (λ l. CameTo u.before l (map linkage_left last)) (sym (map_after items (map linkage_left) rest)) u.came in
    let same = left_before u.before (map items rest) (map items fronts) (map linkage_left last) last told came s in
    subst IsMesh (sym same ∙ map_after items (map linkage_left) fronts) u.mesh

-- a row has its last end
pub has_last : (row : List PeerEnd) (other : PeerEnd) → EndsJoined row other → row ≡ [] → ⊥
has_last row other h e = omega (arith, ap length (sym e ∙ h.2), length_push h.0 h.1)

pub joined_last : (row front : List PeerEnd) (one other : PeerEnd) → row ≡ front ++ one ∷ [] → EndsJoined row other
    → AreJoined (linkage_left one, linkage_left other)
joined_last row front one other e h =
    let same = same_from_push h.0 front h.1 one (sym h.2 ∙ e) in
    subst (λ (x : PeerEnd). AreJoined (linkage_left x, linkage_left other)) same.1 h.3

pub none_settled_with : (rows fronts : List (List PeerEnd)) (last : List PeerEnd) (told : List (Went × Went)) → rows ≡ [] → fronts ≡ [] → last ≡ []
    → told ≡ [] → IsSettledWith rows last fronts told
none_settled_with rows fronts last told r f l t = record {
  came = [];
  count = sym (ap length f);
  rows_are = r
      ∙ sym (ap (λ x. each_with x []) f);
  last_is = l;
  in_order = All-nil WentInOrder;
  told_are = t;
}

-- one more pair of ends
pub settled_more : (rows rows' : List (List PeerEnd)) (row : List PeerEnd) (last last' : List PeerEnd) (other : PeerEnd)
    (fronts fronts' : List (List PeerEnd)) (front : List PeerEnd) (told told' : List (Went × Went)) (pair : Went × Went) (one : PeerEnd)
    → rows ≡ rows' ++ row ∷ [] → last ≡ last' ++ other ∷ [] → fronts ≡ fronts' ++ front ∷ [] → told ≡ told' ++ pair ∷ [] → row ≡ front ++ one ∷ []
    → pair ≡ both_went (one, other) → WentInOrder (one, other)
    → IsSettledWith rows' last' fronts' told' → IsSettledWith rows last fronts told
settled_more rows rows' row last last' other fronts fronts' front told told' pair one er el ef et is went order s =
    let firsts = map (λ (p : PeerEnd × PeerEnd). p.0) s.came in
    let more = s.came ++ (one, other) ∷ [] in
    record {
      came = more;
      count = length_push s.came (one, other) ∙ omega (arith, s.count, ap length ef, length_push fronts' front);
      rows_are =
          er ∙ (λ i. s.rows_are i ++ is i ∷ [])
          ∙ sym (each_push fronts' firsts front one (length-map s.came (λ p. p.0) ∙ s.count))
          ∙ sym (λ i. each_with (ef i) (map-append (λ (p : PeerEnd × PeerEnd). p.0) s.came ((one, other) ∷ []) i));
      last_is = el ∙ ap (λ l. l ++ other ∷ []) s.last_is ∙ sym (map-append (λ (p : PeerEnd × PeerEnd). p.1) s.came ((one, other) ∷ []));
      in_order = All-push WentInOrder s.came (one, other) s.in_order order;
      told_are = et ∙ (λ i. s.told_are i ++ went i ∷ []) ∙ sym (map-append both_went s.came ((one, other) ∷ []));
    }

pub none_settled : (ends : List (List PeerEnd)) (told : List (List Went)) → ends ≡ [] → told ≡ [] → AreSettled ends told
none_settled ends told e t = record { came = []; in_turn = tt; ends_are = e; in_order = All-nil (λ pairs. All WentInOrder pairs); told_are = t }

pub settled_then : (ends rows : List (List PeerEnd)) (last : List PeerEnd) (fronts : List (List PeerEnd)) (told told' : List (List Went))
    (pairs : List (Went × Went))
    → ends ≡ rows ++ last ∷ [] → IsSettledWith rows last fronts pairs → AreSettled fronts told'
    → told ≡ each_with told' (map (λ p. p.0) pairs) ++ map (λ p. p.1) pairs ∷ [] → AreSettled ends told
settled_then ends rows last fronts told told' pairs e s a t =
    record {
      came = s.came ∷ a.came;
      in_turn = (s.count ∙ ap length a.ends_are ∙ length_rows a.came, a.in_turn);
      ends_are = e ∙ (λ i. s.rows_are i ++ s.last_is i ∷ []) ∙ ap (λ l. each_with l (map (λ p. p.0) s.came) ++ map (λ p. p.1) s.came ∷ []) a.ends_are;
      in_order = All-cons (λ pairs. All WentInOrder pairs) s.came a.came s.in_order a.in_order;
      told_are = t ∙ (λ i. each_with (a.told_are i) (map (λ (p : Went × Went). p.0) (s.told_are i)) ++ map (λ (p : Went × Went). p.1) (s.told_are i) ∷ []);
    }

turns : {X Y : Type 0} (f : X → Y) (came : List (List X)) → AreInTurn came → AreInTurn (map (map f) came)
turns f [] h = tt
turns f (c ∷ came) h = (length-map c f ∙ h.0 ∙ sym (length-map came (map f)), turns f came h.1)

pub told_of_each : (ends : List (List PeerEnd)) (told : List (List Went)) → AreSettled ends told → length told ≡ length ends
told_of_each ends told a = ap length a.told_are ∙ length_rows (map (map both_went) a.came) ∙ length-map a.came (map both_went)
    ∙ sym (ap length a.ends_are ∙ length_rows a.came)

pub told_of_others : (ends : List (List PeerEnd)) (told : List (List Went)) → AreSettled ends told → All (λ row. length row + 1 ≡ length ends) told
told_of_others ends told a =
    let rows = rows_of (map (map both_went) a.came) in
    let count : length (map (map both_went) a.came) ≡ length ends = length-map a.came (map both_went) ∙ sym (ap length a.ends_are ∙ length_rows a.came) in
    All-same (λ row. length row + 1 ≡ length ends) told rows a.told_are
    (All-weaker (λ row. length row + 1 ≡ length (map (map both_went) a.came)) (λ row. length row + 1 ≡ length ends) (λ row e. e ∙ count) rows
    (full_rows (map (map both_went) a.came) (turns both_went a.came a.in_turn)))

to_next : (by : ℕ) (others : List ℕ) (told : List Went) (k to : ℕ) (d : Went) → k < length others → length told ≡ length others → to ≡ get_or others k to
    → ends_to by (take (suc k) others) (take (suc k) told) ≡ ends_to by (take k others) (take k told) ++ link_end by to false (get_or told k d).deltas
    ∷ link_end by to true (get_or told k d).acks ∷ []
to_next by [] told k to d lt len is = absurd (omega (arith, lt))
to_next by (o ∷ others) [] k to d lt len is = absurd (omega (arith, len))
to_next by (o ∷ others) (w ∷ told) zero to d lt len is = sym (λ i. link_end by (is i) false w.deltas ∷ link_end by (is i) true w.acks ∷ [])
to_next by (o ∷ others) (w ∷ told) (suc k) to d lt len is = ap (λ l. link_end by o false w.deltas ∷ link_end by o true w.acks ∷ l)
    (to_next by others told k to d (omega (arith, lt)) (omega (arith, len)) is)

ends_more : (by : ℕ) (others : List ℕ) (told : List Went) (k to : ℕ) (d : Went) → k < length others → length told ≡ length others → to ≡ get_or others k to
    → ends_to by (take (k + 1) others) (take (k + 1) told) ≡ ends_to by (take k others) (take k told) ++ link_end by to false (get_or told k d).deltas
    ∷ link_end by to true (get_or told k d).acks ∷ []
ends_more by others told k to d lt len is =
    let next : suc k ≡ k + 1 = omega (arith) in
    let w = get_or told k d in
    subst (λ n. ends_to by (take n others) (take n told) ≡ ends_to by (take k others) (take k told) ++ link_end by to false w.deltas
    ∷ link_end by to true w.acks ∷ []) next (to_next by others told k to d lt len is)

-- the links to one more site
pub ends_added : (by : ℕ) (others : List ℕ) (told : List Went) (k to : ℕ) (d : Went) (links before one both : List LinkEnd) → k < length others
    → length told ≡ length others → to ≡ get_or others k to
    → before ≡ links ++ ends_to by (take k others) (take k told) → one ≡ before ++ link_end by to false (get_or told k d).deltas ∷ []
    → both ≡ one ++ link_end by to true (get_or told k d).acks ∷ []
    → both ≡ links ++ ends_to by (take (k + 1) others) (take (k + 1) told)
ends_added by others told k to d links before one both lt len is eb eo et =
    let first = link_end by to false (get_or told k d).deltas in
    let second = link_end by to true (get_or told k d).acks in
    et ∙ ap (λ l. l ++ second ∷ []) (eo ∙ ap (λ l. l ++ first ∷ []) eb)
    ∙ append_assoc (links ++ ends_to by (take k others) (take k told)) (first ∷ []) (second ∷ [])
    ∙ append_assoc links (ends_to by (take k others) (take k told)) (first ∷ second ∷ [])
    ∙ ap (λ l. links ++ l) (sym (ends_more by others told k to d lt len is))

ends_append : (by : ℕ) (xs ys : List ℕ) (ws vs : List Went) → length ws ≡ length xs → ends_to by (xs ++ ys) (ws ++ vs) ≡ ends_to by xs ws ++ ends_to by ys vs
ends_append by [] ys [] vs e = refl
ends_append by [] ys (w ∷ ws) vs e = absurd (omega (arith, e))
ends_append by (x ∷ xs) ys [] vs e = absurd (omega (arith, e))
ends_append by (x ∷ xs) ys (w ∷ ws) vs e = ap (λ l. link_end by x false w.deltas ∷ link_end by x true w.acks ∷ l)
    (ends_append by xs ys ws vs (omega (arith, e)))

-- the links to those before and to those behind
pub ends_split : (by : ℕ) (sites : List ℕ) (row : List Went) (k : ℕ) → k < length sites → length row + 1 ≡ length sites
    → ends_to by (take k sites) (take k row) ++ ends_to by (drop (k + 1) sites) (drop k row) ≡ ends_to by (take k sites ++ drop (k + 1) sites) row
ends_split by sites row k lt len =
    sym (ends_append by (take k sites) (drop (k + 1) sites) (take k row) (drop k row)
    (length-take-le k row (omega (arith, lt, len)) ∙ sym (length-take-le k sites (omega (arith, lt)))))
    ∙ ap (ends_to by (take k sites ++ drop (k + 1) sites)) (take-append-drop k row)

-- the links of one site more
pub site_added : (sites : List ℕ) (told : List (List Went)) (k by : ℕ) (row : List Went) (before some all : List LinkEnd) → k < length sites
    → length row + 1 ≡ length sites → by ≡ slice_index sites k → row ≡ slice_index_or told k []
    → before ≡ first_ends sites told k → some ≡ before ++ ends_to by (take k sites) (take k row)
    → all ≡ some ++ ends_to by (drop (k + 1) sites) (drop k row) → all ≡ first_ends sites told (k + 1)
site_added sites told k by row before some all lt len is was eb es ea =
    let next : suc k ≡ k + 1 = omega (arith) in
    ea ∙ ap (λ l. l ++ ends_to by (drop (k + 1) sites) (drop k row)) es
    ∙ append_assoc before (ends_to by (take k sites) (take k row)) (ends_to by (drop (k + 1) sites) (drop k row))
    ∙ (λ i. eb i ++ ends_split by sites row k lt len i)
    ∙ (λ i. first_ends sites told k ++ ends_to (is i) (take k sites ++ drop (k + 1) sites) (was i))
    ∙ ap (first_ends sites told) next

names_to : (by : ℕ) (others : List ℕ) (told : List Went) → length told ≡ length others → map link_name_of (ends_to by others told) ≡ flat_map (both by) others
names_to by [] told e = refl
names_to by (o ∷ others) [] e = absurd (omega (arith, e))
names_to by (o ∷ others) (w ∷ told) e = ap (λ l. record { by = by; to = o; acks = false } ∷ record { by = by; to = o; acks = true } ∷ l)
    (names_to by others told (omega (arith, e)))

names_first : (sites : List ℕ) (told : List (List Went)) (k : ℕ) → k ≤ length sites → length told ≡ length sites
    → All (λ row. length row + 1 ≡ length sites) told → map link_name_of (first_ends sites told k) ≡ first_links sites k
names_first sites told zero le len full = refl
names_first sites told (suc k) le len full =
    let row = slice_index_or told k [] in
    let others = take k sites ++ drop (k + 1) sites in
    let one_less : length row + 1 ≡ length sites = All-get_or (λ row. length row + 1 ≡ length sites) told k [] (omega (arith, le, len)) full in
    let count : length row ≡ length others = omega
    (arith, le, one_less, length-append (take k sites) (drop (k + 1) sites), length-take-le k sites (omega (arith, le)), length-drop (k + 1) sites) in
    map-append link_name_of (first_ends sites told k) (ends_to (slice_index sites k) others row)
    ∙ (λ i. names_first sites told k (omega (arith, le)) len full i ++ names_to (slice_index sites k) others row count i)

names_told : (sites : List ℕ) (told : List (List Went)) → length told ≡ length sites → All (λ row. length row + 1 ≡ length sites) told
    → map link_name_of (link_ends sites told) ≡ link_names sites
names_told sites told len full = names_first sites told (length sites) (omega (arith)) len full

bounded_to : (rounds by : ℕ) (others : List ℕ) (told : List Went) → All (WentBounded rounds) told → All (IsBounded rounds) (ends_to by others told)
bounded_to rounds by [] told h = All-nil (IsBounded rounds)
bounded_to rounds by (o ∷ others) [] h = All-nil (IsBounded rounds)
bounded_to rounds by (o ∷ others) (w ∷ told) h =
    let one = All-head (WentBounded rounds) w told h in
    All-cons (IsBounded rounds) (link_end by o false w.deltas) (link_end by o true w.acks ∷ ends_to by others told) one.0
    (All-cons (IsBounded rounds) (link_end by o true w.acks) (ends_to by others told) one.1
    (bounded_to rounds by others told (All-tail (WentBounded rounds) w told h)))

bounded_first : (rounds : ℕ) (sites : List ℕ) (told : List (List Went)) (k : ℕ) → k ≤ length told → All (λ row. All (WentBounded rounds) row) told
    → All (IsBounded rounds) (first_ends sites told k)
bounded_first rounds sites told zero le h = All-nil (IsBounded rounds)
bounded_first rounds sites told (suc k) le h =
    All-append (IsBounded rounds) (first_ends sites told k) (ends_to (slice_index sites k) (take k sites ++ drop (k + 1) sites) (slice_index_or told k []))
    (bounded_first rounds sites told k (omega (arith, le)) h)
    (bounded_to rounds (slice_index sites k) (take k sites ++ drop (k + 1) sites) (slice_index_or told k [])
    (All-get_or (λ row. All (WentBounded rounds) row) told k [] (omega (arith, le)) h))

shorter : {X : Type 0} (xs ys : List X) → IsPrefix xs ys → length xs ≤ length ys
shorter xs ys h = omega (arith, ap length h.1, length-append xs h.0)

-- what an exchange of new links left: no more deltas were sent than rounds, no more sent back than came and was not refused, and no more refused than came
pub record LeftWithin (rounds : ℕ) (end : PeerEnd) : Type 0 where
  pub sent : length end.delta_tx.messages ≤ rounds
  pub acknowledged : length end.ack_tx.messages + end.deltas_refused ≤ length end.delta_rx.messages
  pub acks_refused : end.acks_refused ≤ length end.ack_rx.messages

left_within : (rounds : ℕ) (end : PeerEnd) → IsLeftOfNew rounds end → LeftWithin rounds end
left_within rounds end h =
    let peer = h.0 in
    let sent = h.2.sent in
    let a = h.2.acknowledged in
    record {
      sent = omega (arith, sent.few, ap length sent.more_sent, length-append peer.delta_tx.messages sent.put, ap length h.1.0);
      acknowledged = omega (
        arith,
        a.counted,
        ap length a.met.more_came,
        length-append peer.delta_rx.messages a.met.got,
        ap length a.more_sent,
        length-append peer.ack_tx.messages a.put,
        ap length h.1.1,
      );
      acks_refused = omega (arith, h.2.acks_counted);
    }

-- what went from a site to another, by the ends of both
went_bounded : (rounds : ℕ) (one other : PeerEnd) → LeftWithin rounds one → LeftWithin rounds other → GotFirst one other → GotFirst other one
    → WentBounded rounds (went one other)
went_bounded rounds one other a b there back =
    let deltas = shorter other.delta_rx.messages one.delta_tx.messages there.0 in
    let acks = shorter other.ack_rx.messages one.ack_tx.messages there.1 in
    let came = shorter one.delta_rx.messages other.delta_tx.messages back.0 in
    (((omega (arith, b.acknowledged), deltas), a.sent), ((b.acks_refused, acks), omega (arith, a.acknowledged, came, b.sent)))

pairs_bounded : (rounds : ℕ) (pairs : List (PeerEnd × PeerEnd)) → All (IsLeftOfNew rounds) (map (λ p. p.0) pairs)
    → All (IsLeftOfNew rounds) (map (λ p. p.1) pairs) → All WentInOrder pairs
    → All (WentBounded rounds) (map (λ p. p.0) (map both_went pairs)) × All (WentBounded rounds) (map (λ p. p.1) (map both_went pairs))
pairs_bounded rounds [] h k o = (All-nil (WentBounded rounds), All-nil (WentBounded rounds))
pairs_bounded rounds (p ∷ pairs) h k o =
    let a = left_within rounds p.0 (All-head (IsLeftOfNew rounds) p.0 (map (λ p. p.0) pairs) h) in
    let b = left_within rounds p.1 (All-head (IsLeftOfNew rounds) p.1 (map (λ p. p.1) pairs) k) in
    let order = All-head WentInOrder p pairs o in
    let rest = pairs_bounded rounds pairs (All-tail (IsLeftOfNew rounds) p.0 (map (λ p. p.0) pairs) h)
    (All-tail (IsLeftOfNew rounds) p.1 (map (λ p. p.1) pairs) k) (All-tail WentInOrder p pairs o) in (
      All-cons (WentBounded rounds) (went p.0 p.1) (map (λ p. p.0) (map both_went pairs)) (went_bounded rounds p.0 p.1 a b order.0 order.1) rest.0,
      All-cons (WentBounded rounds) (went p.1 p.0) (map (λ p. p.1) (map both_went pairs)) (went_bounded rounds p.1 p.0 b a order.1 order.0) rest.1,
    )

rows_bounded : (rounds : ℕ) (came : List (List (PeerEnd × PeerEnd))) → AreInTurn came → All (λ row. All (IsLeftOfNew rounds) row) (rows_of came)
    → All (λ pairs. All WentInOrder pairs) came → All (λ row. All (WentBounded rounds) row) (rows_of (map (map both_went) came))
rows_bounded rounds [] t h o = All-nil (λ row. All (WentBounded rounds) row)
rows_bounded rounds (c ∷ earlier) t h o =
    let split = All-pushed (λ row. All (IsLeftOfNew rounds) row) (each_with (rows_of earlier) (map (λ p. p.0) c)) (map (λ p. p.1) c) h in
    let each = all_before (IsLeftOfNew rounds) (rows_of earlier) (map (λ p. p.0) c) (length-map c (λ p. p.0) ∙ t.0 ∙ sym (length_rows earlier)) split.0 in
    let bounded = pairs_bounded rounds c each.1 split.1 (All-head (λ pairs. All WentInOrder pairs) c earlier o) in
    let before = rows_bounded rounds earlier t.1 each.0 (All-tail (λ pairs. All WentInOrder pairs) c earlier o) in
    All-push (λ row. All (WentBounded rounds) row) (each_with (rows_of (map (map both_went) earlier)) (map (λ p. p.0) (map both_went c)))
    (map (λ p. p.1) (map both_went c))
    (all_each (WentBounded rounds) (rows_of (map (map both_went) earlier)) (map (λ p. p.0) (map both_went c)) before bounded.0) bounded.1

all_bounded : (rounds : ℕ) (sites : List ℕ) (links : List LinkEnd) → AreLinksTold rounds sites links → All (IsBounded rounds) links
all_bounded rounds sites links a =
    let told = rows_of (map (map both_went) a.came) in
    let count : length told ≡ length sites = length_rows (map (map both_went) a.came) ∙ length-map a.came (map both_went) ∙ a.count in
    All-same (IsBounded rounds) links (link_ends sites told) a.links_are
    (bounded_first rounds sites told (length sites) (omega (arith, count)) (rows_bounded rounds a.came a.in_turn a.left a.in_order))

-- of each link no more was refused than was got, and no more got than put
pub all_counted : (rounds : ℕ) (sites : List ℕ) (links : List LinkEnd) → AreLinksTold rounds sites links → All IsCounted links
all_counted rounds sites links a = All-weaker (IsBounded rounds) IsCounted (λ link h. h.0) links (all_bounded rounds sites links a)

-- into each link no more was put than there were rounds
pub all_within : (rounds : ℕ) (sites : List ℕ) (links : List LinkEnd) → AreLinksTold rounds sites links → All (λ link. link.put ≤ rounds) links
all_within rounds sites links a = All-weaker (IsBounded rounds) (λ link. link.put ≤ rounds) (λ link h. h.1) links (all_bounded rounds sites links a)

pairs_acknowledged : (rounds : ℕ) (pairs : List (PeerEnd × PeerEnd)) → All (IsLeftOfNew rounds) (map (λ p. p.0) pairs)
    → All (IsLeftOfNew rounds) (map (λ p. p.1) pairs) → All IsAcknowledged (map both_went pairs)
pairs_acknowledged rounds [] h k = All-nil IsAcknowledged
pairs_acknowledged rounds (p ∷ pairs) h k =
    let a = left_within rounds p.0 (All-head (IsLeftOfNew rounds) p.0 (map (λ p. p.0) pairs) h) in
    let b = left_within rounds p.1 (All-head (IsLeftOfNew rounds) p.1 (map (λ p. p.1) pairs) k) in
    All-cons IsAcknowledged (both_went p) (map both_went pairs) (b.acknowledged, a.acknowledged)
    (pairs_acknowledged rounds pairs (All-tail (IsLeftOfNew rounds) p.0 (map (λ p. p.0) pairs) h) (All-tail (IsLeftOfNew rounds) p.1 (map (λ p. p.1) pairs) k))

each_acknowledged : (rounds : ℕ) (came : List (List (PeerEnd × PeerEnd))) → AreInTurn came → All (λ row. All (IsLeftOfNew rounds) row) (rows_of came)
    → All (λ pairs. All IsAcknowledged pairs) (map (map both_went) came)
each_acknowledged rounds [] t h = All-nil (λ pairs. All IsAcknowledged pairs)
each_acknowledged rounds (c ∷ earlier) t h =
    let split = All-pushed (λ row. All (IsLeftOfNew rounds) row) (each_with (rows_of earlier) (map (λ p. p.0) c)) (map (λ p. p.1) c) h in
    let each = all_before (IsLeftOfNew rounds) (rows_of earlier) (map (λ p. p.0) c) (length-map c (λ p. p.0) ∙ t.0 ∙ sym (length_rows earlier)) split.0 in
    All-cons (λ pairs. All IsAcknowledged pairs) (map both_went c) (map (map both_went) earlier) (pairs_acknowledged rounds c each.1 split.1)
    (each_acknowledged rounds earlier t.1 each.0)

-- of what the sites got, they acknowledged no more than they did not refuse
pub all_acknowledged : (rounds : ℕ) (sites : List ℕ) (links : List LinkEnd) → AreLinksTold rounds sites links → AreAcknowledged sites links
all_acknowledged rounds sites links a = record {
  came = map (map both_went) a.came;
  count = length-map a.came (map both_went) ∙ a.count;
  in_turn = turns both_went a.came a.in_turn;
  acknowledged = each_acknowledged rounds a.came a.in_turn a.left;
  links_are = a.links_are;
}

-- the links have their names
pub all_named : (rounds : ℕ) (sites : List ℕ) (links : List LinkEnd) → AreLinksTold rounds sites links → map link_name_of links ≡ link_names sites
all_named rounds sites links a =
    let came = map (map both_went) a.came in
    let told = rows_of came in
    let same : length came ≡ length sites = length-map a.came (map both_went) ∙ a.count in
    ap (map link_name_of) a.links_are
    ∙ names_told sites told (length_rows came ∙ same)
    (All-weaker (λ row. length row + 1 ≡ length came) (λ row. length row + 1 ≡ length sites) (λ row e. e ∙ same) told
    (full_rows came (turns both_went a.came a.in_turn)))

-- what the ends tell is told
pub all_told : (rounds : ℕ) (sites : List ℕ) (links : List LinkEnd) (ends : List (List PeerEnd)) (told : List (List Went)) → AreSettled ends told
    → length ends ≡ length sites → All (λ row. All (IsLeftOfNew rounds) row) ends → map (map (λ e. e.to)) ends ≡ others_of sites
    → links ≡ link_ends sites told → AreLinksTold rounds sites links
all_told rounds sites links ends told a n left named e = record {
  came = a.came;
  count = sym (ap length a.ends_are ∙ length_rows a.came) ∙ n;
  in_turn = a.in_turn;
  left = All-same (λ row. All (IsLeftOfNew rounds) row) (rows_of a.came) ends (sym a.ends_are) left;
  named = ap (map (map (λ e. e.to))) (sym a.ends_are) ∙ named;
  in_order = a.in_order;
  links_are = e ∙ ap (link_ends sites) a.told_are;
}

-- the sites are as many as rows were told, and each row has one less
pub rows_told : {R : Type 0} (items : R → List Went) (size : R → ℕ) → ((r : R) → size r ≡ length (items r)) → (rows : List R) (n m : ℕ) → n ≡ m
    → All (λ row. length row + 1 ≡ n) (map items rows) → All (λ r. size r + 1 ≡ m) rows
rows_told items size is [] n m e h = All-nil (λ r. size r + 1 ≡ m)
rows_told items size is (r ∷ rows) n m e h =
    All-cons (λ r. size r + 1 ≡ m) r rows (omega (arith, is r, e, All-head (λ row. length row + 1 ≡ n) (items r) (map items rows) h))
    (rows_told items size is rows n m e (All-tail (λ row. length row + 1 ≡ n) (items r) (map items rows) h))

-- Sites that are linked with those before them, and the last of them taken away again.
use Rattle.std.proofs.Common.{◌≡◌, ℕ, List, [], ◌∷◌, ◌++◌, length, refl, sym, ap, ◌∙◌, subst, arith}
use Rattle.std.specs.Prelude.{All, map}
use Rattle.std.specs.List.{AllZip}
use Rattle.std.proofs.lemmas.List.{length_push, length-map, map-append, same_from_push}
use Rattle.std.proofs.lemmas.List.Elements.{All-cons, All-nil, All-head, All-tail, All-push, All-same}
use Rattle.session_server.specs.declared.peer.Peer.{Peer}
use Rattle.session_server.specs.declared.peer.PeerEnd.{PeerEnd}
use Rattle.session_server.specs.Mesh.{AreInTurn, AreJoined, CameTo, GotPeer, IsMesh, IsNewPeer, Linkage, each_with, linkage_left, linkage_of, others_of, rows_of}
use Rattle.session_server.specs.Settled.{EndsJoined, IsSettledWith}
use Rattle.session_server.proofs.Rows.{All-pushed, each_map, each_more, each_push, each_same, length_each, length_rows, mapped_push, map_after}

pub nobody_came : CameTo [] [] []
nobody_came = record { came = []; count = refl; joined = All-nil AreJoined; after_is = refl; own_is = refl }

-- the site is linked with one more of those before it
pub came_more : (before after : List (List Linkage)) (own : List Linkage) (had has : List Peer) (here : Peer) → CameTo before after own → GotPeer had has here
    → CameTo (before ++ map linkage_of had ∷ []) (after ++ map linkage_of has ∷ []) (own ++ linkage_of here ∷ [])
came_more before after own had has here c g =
    let there = linkage_of g.0 in
    let row : map linkage_of has ≡ map linkage_of had ++ there ∷ [] = mapped_push linkage_of has had g.0 g.1 in
    let firsts = map (λ (p : Linkage × Linkage). p.0) c.came in
    record {
      came = c.came ++ (there, linkage_of here) ∷ [];
      count = length_push c.came (there, linkage_of here) ∙ omega (arith, c.count, length_push before (map linkage_of had));
      joined = All-push AreJoined c.came (there, linkage_of here) c.joined g.2;
      after_is =
          (λ i. c.after_is i ++ row i ∷ [])
          ∙ sym (each_push before firsts (map linkage_of had) there (length-map c.came (λ p. p.0) ∙ c.count))
          ∙ ap (each_with (before ++ map linkage_of had ∷ [])) (sym (map-append (λ (p : Linkage × Linkage). p.0) c.came ((there, linkage_of here) ∷ [])));
      own_is = ap (λ l. l ++ linkage_of here ∷ []) c.own_is ∙ sym (map-append (λ (p : Linkage × Linkage). p.1) c.came ((there, linkage_of here) ∷ []));
    }

-- the same of lists of whatever has peers
pub came_begun : {R : Type 0} (items : R → List Peer) (rows : List R) (own : List Peer) → rows ≡ [] → own ≡ []
    → CameTo [] (map (λ r. map linkage_of (items r)) rows) (map linkage_of own)
came_begun items rows own e o = subst (λ l. CameTo [] (map (λ r. map linkage_of (items r)) l) (map linkage_of own)) (sym e)
    (subst (λ l. CameTo [] [] (map linkage_of l)) (sym o) nobody_came)

pub came_then : {R : Type 0} (items : R → List Peer) (befores : List R) (before : R) (afters afters' : List R) (after : R) (own own' : List Peer) (here : Peer)
    → CameTo (map (λ r. map linkage_of (items r)) befores) (map (λ r. map linkage_of (items r)) afters) (map linkage_of own)
    → GotPeer (items before) (items after) here → afters' ≡ afters ++ after ∷ [] → own' ≡ own ++ here ∷ []
    → CameTo (map (λ r. map linkage_of (items r)) (befores ++ before ∷ [])) (map (λ r. map linkage_of (items r)) afters') (map linkage_of own')
came_then {R} items befores before afters afters' after own own' here c g e o =
    let row : R → List Linkage = λ r. map linkage_of (items r) in
    let more = came_more (map row befores) (map row afters) (map linkage_of own) (items before) (items after) here c g in
    subst (λ l. CameTo l (map row afters') (map linkage_of own')) (sym (map-append row befores (before ∷ [])))
    (subst (λ l. CameTo (map row befores ++ row before ∷ []) l (map linkage_of own')) (sym (mapped_push row afters' afters after e))
    (subst (λ l. CameTo (map row befores ++ row before ∷ []) (map row afters ++ row after ∷ []) l) (sym (mapped_push linkage_of own' own here o)) more))

-- through the links of those that got a peer nothing went
pub new_then : {R : Type 0} (items : R → List Peer) (befores : List R) (before : R) (afters afters' : List R) (after : R) (here : Peer)
    → (All (λ r. All IsNewPeer (items r)) befores → All (λ r. All IsNewPeer (items r)) afters) → GotPeer (items before) (items after) here
    → afters' ≡ afters ++ after ∷ [] → All (λ r. All IsNewPeer (items r)) (befores ++ before ∷ []) → All (λ r. All IsNewPeer (items r)) afters'
new_then items befores before afters afters' after here so g e h =
    let split = All-pushed (λ r. All IsNewPeer (items r)) befores before h in
    All-same (λ r. All IsNewPeer (items r)) afters' (afters ++ after ∷ []) e
    (All-push (λ r. All IsNewPeer (items r)) afters after (so split.0)
    (All-same IsNewPeer (items after) (items before ++ g.0 ∷ []) g.1 (All-push IsNewPeer (items before) g.0 split.1 g.3)))

pub mesh_with : (before after : List (List Linkage)) (own : List Linkage) → IsMesh before → CameTo before after own → IsMesh (after ++ own ∷ [])
mesh_with before after own m c =
    record {
      came = c.came ∷ m.came;
      in_turn = (c.count ∙ ap length m.rows_are ∙ length_rows m.came, m.in_turn);
      joined = All-cons (λ pairs. All AreJoined pairs) c.came m.came c.joined m.joined;
      rows_are = (λ i. c.after_is i ++ c.own_is i ∷ []) ∙ ap (λ l. each_with l (map (λ p. p.0) c.came) ++ map (λ p. p.1) c.came ∷ []) m.rows_are;
    }

-- the last site, and the mesh of those before it
pub record Undone (rows : List (List Linkage)) (last : List Linkage) : Type 0 where
  pub before : List (List Linkage)
  pub mesh : IsMesh before
  pub came : CameTo before rows last

pub undone : (rows : List (List Linkage)) (last : List Linkage) → IsMesh (rows ++ last ∷ []) → Undone rows last
undone rows last m = by_came m.came m.in_turn m.joined m.rows_are
  where
    by_came : (came : List (List (Linkage × Linkage))) → AreInTurn came → All (λ pairs. All AreJoined pairs) came → rows ++ last ∷ [] ≡ rows_of came
        → Undone rows last
    by_came [] t j e = absurd (omega (arith, ap length e, length_push rows last))
    by_came (c ∷ earlier) t j e =
        let same = same_from_push rows (each_with (rows_of earlier) (map (λ p. p.0) c)) last (map (λ p. p.1) c) e in
        record {
          before = rows_of earlier;
          mesh = record { came = earlier; in_turn = t.1; joined = All-tail (λ pairs. All AreJoined pairs) c earlier j; rows_are = refl };
          came = record {
            came = c;
            count = t.0 ∙ sym (length_rows earlier);
            joined = All-head (λ pairs. All AreJoined pairs) c earlier j;
            after_is = same.0;
            own_is = same.1;
          };
        }

-- the last element of a list whose image ends so
last_of : {X Y : Type 0} (f : X → Y) (xs : List X) (ys : List Y) (y : Y) → map f xs ≡ ys ++ y ∷ []
    → (front : List X) × (one : X) × (xs ≡ front ++ one ∷ []) × (f one ≡ y)
last_of f [] ys y e = absurd (omega (arith, ap length e, length_push ys y))
last_of f (x ∷ []) [] y e = ([], x, refl, (let same = e in cc))
last_of f (x ∷ []) (b ∷ ys) y e = absurd (omega (arith, ap length e, length_push ys y))
last_of f (x ∷ z ∷ xs) [] y e = absurd (omega (arith, ap length e))
last_of f (x ∷ z ∷ xs) (b ∷ ys) y e =
    let rest : map f (z ∷ xs) ≡ ys ++ y ∷ [] = let same = e in cc in
    let l = last_of f (z ∷ xs) ys y rest in
    (x ∷ l.0, l.1, ap (λ t. x ∷ t) l.2, l.3)

-- the last ends of the rows before are of one link each with an end of the last site
pub last_joined : {R : Type 0} (items : R → List PeerEnd) (before : List (List Linkage)) (rows : List R) (last : List PeerEnd)
    → CameTo before (map (λ r. map linkage_left (items r)) rows) (map linkage_left last)
    → AllZip (λ r other. EndsJoined (items r) other) rows last
last_joined {R} items before rows last c = by_came before rows last c.came c.count c.joined c.after_is c.own_is
  where
    by_came : (before : List (List Linkage)) (rows : List R) (last : List PeerEnd) (came : List (Linkage × Linkage)) → length came ≡ length before
        → All AreJoined came
        → map (λ r. map linkage_left (items r)) rows ≡ each_with before (map (λ p. p.0) came) → map linkage_left last ≡ map (λ p. p.1) came
        → AllZip (λ r other. EndsJoined (items r) other) rows last
    by_came [] [] [] came n j e s = tt
    by_came [] [] (o ∷ last) [] n j e s = absurd (omega (arith, ap length s))
    by_came [] rows last (p ∷ came) n j e s = absurd (omega (arith, n))
    by_came [] (r ∷ rows) last [] n j e s = absurd (omega (arith, ap length e))
    by_came (b ∷ before) rows last [] n j e s = absurd (omega (arith, n))
    by_came (b ∷ before) [] last (p ∷ came) n j e s = absurd (omega (arith, ap length e))
    by_came (b ∷ before) (r ∷ rows) [] (p ∷ came) n j e s = absurd (omega (arith, ap length s))
    by_came (b ∷ before) (r ∷ rows) (o ∷ last) (p ∷ came) n j e s =
        let row : map linkage_left (items r) ≡ b ++ p.0 ∷ [] = let same = e in cc in
        let rest : map (λ r. map linkage_left (items r)) rows ≡ each_with before (map (λ p. p.0) came) = let same = e in cc in
        let one : linkage_left o ≡ p.1 = let same = s in cc in
        let others : map linkage_left last ≡ map (λ p. p.1) came = let same = s in cc in
        let l = last_of linkage_left (items r) b p.0 row in
        let is : (linkage_left l.1, linkage_left o) ≡ p = λ i. (l.3 i, one i) in (
          (l.0, l.1, l.2, subst AreJoined (sym is) (All-head AreJoined p came j)),
          by_came before rows last came (omega (arith, n)) (All-tail AreJoined p came j) rest others,
        )

pub came_to_each : (before after : List (List Linkage)) (own : List Linkage) → CameTo before after own → length after ≡ length own
came_to_each before after own c =
    ap length c.after_is ∙ length_each before (map (λ p. p.0) c.came) ∙ sym c.count ∙ sym (ap length c.own_is ∙ length-map c.came (λ p. p.1))

-- what is left of the rows is the mesh of the sites before
pub left_before : (before : List (List Linkage)) (rows fronts : List (List PeerEnd)) (last : List Linkage) (others : List PeerEnd) (told : List _)
    → CameTo before (map (map linkage_left) rows) last → IsSettledWith rows others fronts told
    → map (map linkage_left) fronts ≡ before
left_before before rows fronts last others told c s =
    let firsts = map (λ (p : PeerEnd × PeerEnd). p.0) s.came in
    each_same (map (map linkage_left) fronts) before (map linkage_left firsts) (map (λ p. p.0) c.came)
    (length-map firsts linkage_left ∙ length-map s.came (λ p. p.0) ∙ s.count ∙ sym (length-map fronts (map linkage_left)))
    (length-map c.came (λ p. p.0) ∙ c.count)
    (sym (each_map linkage_left fronts firsts) ∙ ap (map (map linkage_left)) (sym s.rows_are) ∙ c.after_is)

-- one more site before got a peer of this number
pub named_more : {R : Type 0} (names : R → List ℕ) (me : ℕ) (befores : List R) (before : R) (afters afters' : List R) (after : R)
    → map names afters ≡ each_with (map names befores) (map (λ r. me) befores) → names after ≡ names before ++ me ∷ [] → afters' ≡ afters ++ after ∷ []
    → map names afters' ≡ each_with (map names (befores ++ before ∷ [])) (map (λ r. me) (befores ++ before ∷ []))
named_more names me befores before afters afters' after is has e =
    each_more (map names (befores ++ before ∷ [])) (map names befores) (names before) (map (λ r. me) (befores ++ before ∷ [])) (map (λ r. me) befores) me
    (map names afters') (map names afters)
    (length-map befores (λ r. me) ∙ sym (length-map befores names)) (map-append names befores (before ∷ [])) (map-append (λ r. me) befores (before ∷ []))
    (mapped_push names afters' afters after e ∙ ap (λ row. map names afters ++ row ∷ []) has) is

each_under : {X : Type 0} (y : X) (rows : List (List X)) (xs : List X) → map (λ row. y ∷ row) (each_with rows xs) ≡ each_with (map (λ row. y ∷ row) rows) xs
each_under y [] xs = refl
each_under y (row ∷ rows) [] = refl
each_under y (row ∷ rows) (x ∷ xs) = ap (λ t. (y ∷ (row ++ x ∷ [])) ∷ t) (each_under y rows xs)

others_push : {X : Type 0} (xs : List X) (y : X) → others_of (xs ++ y ∷ []) ≡ each_with (others_of xs) (map (λ x. y) xs) ++ xs ∷ []
others_push [] y = refl
others_push (x ∷ xs) y =
    ap (λ l. (xs ++ y ∷ []) ∷ map (λ row. x ∷ row) l) (others_push xs y)
    ∙ ap (λ l. (xs ++ y ∷ []) ∷ l) (map-append (λ row. x ∷ row) (each_with (others_of xs) (map (λ z. y) xs)) (xs ∷ [])
    ∙ ap (λ l. l ++ (x ∷ xs) ∷ []) (each_under x (others_of xs) (map (λ z. y) xs)))

-- each row has the numbers of the others
pub named_then : {R : Type 0} (names : R → List ℕ) (number : R → ℕ) (befores afters all : List R) (own : R) (me : ℕ)
    → map names befores ≡ others_of (map number befores) → map number afters ≡ map number befores
    → map names afters ≡ each_with (map names befores) (map (λ r. me) befores) → names own ≡ map number befores → number own ≡ me
    → all ≡ afters ++ own ∷ [] → map names all ≡ others_of (map number all)
named_then {R} names number befores afters all own me had same has mine is e =
    let numbers = map number befores in
    mapped_push names all afters own e
    ∙ (λ i. has i ++ mine i ∷ [])
    ∙ (λ i. each_with (had i) (sym (map_after number (λ (n : ℕ). me) befores) i) ++ numbers ∷ [])
    ∙ sym (others_push numbers me)
    ∙ ap others_of (sym (mapped_push number all afters own e ∙ (λ i. same i ++ is i ∷ [])))

-- An exchange, message by message and peer by peer.
use Rattle.std.proofs.Common.{◌≡◌, ℕ, zero, suc, ◌+◌, ◌<◌, ◌≤◌, get_or, set, List, [], ◌∷◌, ◌++◌, length, inl, inr, Option, Some, None, refl, sym, ap, ◌∙◌, subst, arith}
use Rattle.std.specs.Prelude.{All, IfSome, MatchResult, map}
use Rattle.std.proofs.Common.{Result, Ok, Err}
use Rattle.std.proofs.lemmas.List.{append-nil, length-append, length_push}
use Rattle.std.specs.List.{AllZip}
use Rattle.std.proofs.lemmas.List.Elements.{All-append, All-cons, All-head, All-nil, All-push, All-tail, AllZip-push}
use Rattle.link_queue.specs.End.{End, end_of}
use Rattle.site_exchange.specs.declared.message.Message.{Message}
use Rattle.site_exchange.specs.Exchange.{ack_for, receiver}
use Rattle.session_server.specs.Exchanged.{IsSubsequence, Acknowledges, AreHeldOrRefused, IsHeldOrRefused, AnyGiven, AnyMessage, SentTo, SentMore, IsEndOf, Exchanged, Sent, Received, HasSent, HasReceived, outgoing, incoming}
use Rattle.session_server.specs.Mesh.{IsNewPeer, linkage_left, linkage_of}
use Rattle.session_server.specs.Settled.{IsLeftOfNew}
use Rattle.session_server.specs.declared.peer.Peer.{Peer}
use Rattle.session_server.specs.declared.peer.PeerEnd.{PeerEnd}
use Rattle.session_server.specs.declared.sending.Outgoing.{Outgoing}
use Rattle.session_server.specs.declared.sending.OutgoingEnd.{OutgoingEnd}
use Rattle.session_server.specs.declared.receiving.IncomingEnd.{IncomingEnd}

pub subsequence_end : {X : Type 0} (xs ys zs : List X) → IsSubsequence xs ys → IsSubsequence xs (ys ++ zs)
subsequence_end [] ys zs h = tt
subsequence_end (x ∷ xs) [] zs h = absurd h
subsequence_end (x ∷ xs) (y ∷ ys) zs (inl h) = inl (h.0, subsequence_end xs ys zs h.1)
subsequence_end (x ∷ xs) (y ∷ ys) zs (inr h) = inr (subsequence_end (x ∷ xs) ys zs h)

pub subsequence_push : {X : Type 0} (xs ys : List X) (z : X) → IsSubsequence xs ys → IsSubsequence (xs ++ z ∷ []) (ys ++ z ∷ [])
subsequence_push [] [] z h = inl (refl, tt)
subsequence_push [] (y ∷ ys) z h = inr (subsequence_push [] ys z tt)
subsequence_push (x ∷ xs) [] z h = absurd h
subsequence_push (x ∷ xs) (y ∷ ys) z (inl h) = inl (h.0, subsequence_push xs ys z h.1)
subsequence_push (x ∷ xs) (y ∷ ys) z (inr h) = inr (subsequence_push (x ∷ xs) ys z h)

pub all_zip_push : {A B : Type 0} (R : A → B → Type 0) (xs : List A) (ys : List B) (x : A) (y : B) → AllZip R xs ys → R x y
    → AllZip R (xs ++ x ∷ []) (ys ++ y ∷ [])
all_zip_push R [] [] x y h r = (r, tt)
all_zip_push R [] (b ∷ bs) x y h r = absurd h
all_zip_push R (a ∷ rest) [] x y h r = absurd h
all_zip_push R (a ∷ rest) (b ∷ bs) x y h r = (h.0, all_zip_push R rest bs x y h.1 r)

associative : {X : Type 0} (xs ys zs : List X) → (xs ++ ys) ++ zs ≡ xs ++ (ys ++ zs)
associative [] ys zs = refl
associative (x ∷ xs) ys zs = ap (λ t. x ∷ t) (associative xs ys zs)

-- one more at the end
one_more : {X : Type 0} (xs ys now now' : List X) (y : X) → now ≡ xs ++ ys → now' ≡ now ++ y ∷ [] → now' ≡ xs ++ (ys ++ y ∷ [])
one_more xs ys now now' y p q = q ∙ ap (λ l. l ++ y ∷ []) p ∙ associative xs ys (y ∷ [])

-- no message more came
none_met : (Holds Refuses : Message → Type 0) (came : List Message) → AreHeldOrRefused Holds Refuses came came
none_met Holds Refuses came = record { got = []; more_came = sym (append-nil came); each = All-nil (IsHeldOrRefused Holds Refuses) }

-- one message more came
abbrev one_more_met : (Holds Refuses : Message → Type 0) (came came1 came2 : List Message) (m : Message) → AreHeldOrRefused Holds Refuses came came1
    → IsHeldOrRefused Holds Refuses m → came2 ≡ came1 ++ m ∷ [] → AreHeldOrRefused Holds Refuses came came2
one_more_met Holds Refuses came came1 came2 m h met p = record {
  got = h.got ++ m ∷ [];
  more_came = one_more came h.got came1 came2 m h.more_came p;
  each = All-push (IsHeldOrRefused Holds Refuses) h.got m h.each met;
}

pub nothing_came : (Holds Refuses : Message → Type 0) (came sent : List Message) → Acknowledges Holds Refuses came sent 0 came sent
nothing_came Holds Refuses came sent =
    record {
      met = none_met Holds Refuses came;
      taken = [];
      put = [];
      more_sent = sym (append-nil sent);
      among = tt;
      held = All-nil Holds;
      due = tt;
      counted = omega (arith);
    }

-- a message came that is held, and its acknowledgement was sent
pub sent_for : (Holds Refuses : Message → Type 0) (came sent came1 sent1 came2 sent2 : List Message) (refused : ℕ) (m a : Message)
    → Acknowledges Holds Refuses came sent refused came1 sent1
    → Some a ≡ ack_for m → Holds m → came2 ≡ came1 ++ m ∷ [] → sent2 ≡ sent1 ++ a ∷ [] → Acknowledges Holds Refuses came sent refused came2 sent2
sent_for Holds Refuses came sent came1 sent1 came2 sent2 refused m a h is holds p q = record {
  met = one_more_met Holds Refuses came came1 came2 m h.met (inl holds) p;
  taken = h.taken ++ m ∷ [];
  put = h.put ++ a ∷ [];
  more_sent = one_more sent h.put sent1 sent2 a h.more_sent q;
  among = subsequence_push h.taken h.met.got m h.among;
  held = All-push Holds h.taken m h.held holds;
  due = AllZip-push (λ message ack. ack_for message ≡ Some ack) h.taken h.put m a h.due (sym is);
  counted = omega (arith, h.counted, length_push h.put a, length_push h.met.got m);
}

-- a message came that is held or refused, and nothing was sent for it
pub came_more : (Holds Refuses : Message → Type 0) (came sent came1 sent1 came2 sent2 : List Message) (refused refused2 : ℕ) (m : Message)
    → Acknowledges Holds Refuses came sent refused came1 sent1
    → IsHeldOrRefused Holds Refuses m → came2 ≡ came1 ++ m ∷ [] → sent2 ≡ sent1 → refused2 ≤ refused + 1
    → Acknowledges Holds Refuses came sent refused2 came2 sent2
came_more Holds Refuses came sent came1 sent1 came2 sent2 refused refused2 m h met p q r = record {
  met = one_more_met Holds Refuses came came1 came2 m h.met met p;
  taken = h.taken;
  put = h.put;
  more_sent = q ∙ h.more_sent;
  among = subsequence_end h.taken h.met.got (m ∷ []) h.among;
  held = h.held;
  due = h.due;
  counted = omega (arith, h.counted, length_push h.met.got m, r);
}

-- the acknowledgement was sent, or it came back
pub sent_or_back : (Holds Refuses : Message → Type 0) (came sent came1 came2 : List Message) (tx tx2 : End) (refused : ℕ) (m a : Message)
    (result : Result (Unit {0}) Message) → Acknowledges Holds Refuses came sent refused came1 tx.messages
    → Some a ≡ ack_for m → Holds m → came2 ≡ came1 ++ m ∷ []
    → MatchResult result (λ _. tx2 ≡ end_of tx.link (tx.messages ++ a ∷ [])) (λ back. (back ≡ a) × (tx2 ≡ tx))
    → (tx2.link ≡ tx.link) × Acknowledges Holds Refuses came sent refused came2 tx2.messages
sent_or_back Holds Refuses came sent came1 came2 tx tx2 refused m a (Ok done) h is holds p q
    = (ap (λ e. e.link) q, sent_for Holds Refuses came sent came1 tx.messages came2 tx2.messages refused m a h is holds p (ap (λ e. e.messages) q))
sent_or_back Holds Refuses came sent came1 came2 tx tx2 refused m a (Err back) h is holds p q
    = (
      ap (λ e. e.link) q.1,
      came_more Holds Refuses came sent came1 tx.messages came2 tx2.messages refused refused m h (inl holds) p
          (ap (λ e. e.messages) q.1) (omega (arith)),
    )

-- what holds of what is there, if anything is
pub if_some : {X : Type 0} (P : Option X → Type 0) (o : Option X) → P o → IfSome o (λ x. P (Some x))
if_some P None h = tt
if_some P (Some x) h = h

-- nothing more was sent
sent_nothing : (Gives : ℕ → Message → Type 0) (to most : ℕ) (sent : List Message) → SentTo Gives to most sent sent
sent_nothing Gives to most sent = record
    { put = []; more_sent = sym (append-nil sent); for_it = All-nil (λ m. receiver m ≡ to); given = All-nil (Gives to); few = omega (arith) }

sent_then : (Gives : ℕ → Message → Type 0) (to m n : ℕ) (a b c : List Message) → SentTo Gives to m a b → SentTo Gives to n b c → SentTo Gives to (m + n) a c
sent_then Gives to m n a b c h k = record {
  put = h.put ++ k.put;
  more_sent = k.more_sent ∙ ap (λ l. l ++ k.put) h.more_sent ∙ associative a h.put k.put;
  for_it = All-append (λ m. receiver m ≡ to) h.put k.put h.for_it k.for_it;
  given = All-append (Gives to) h.put k.put h.given k.given;
  few = omega (arith, h.few, k.few, length-append h.put k.put);
}

pub not_sent : (Gives : ℕ → Message → Type 0) (most : ℕ) (out : Outgoing) → SentMore Gives most out out
not_sent Gives most out = record { to = refl; link = refl; put = sent_nothing Gives out.to most out.tx.messages }

more_then : (Gives : ℕ → Message → Type 0) (m n : ℕ) (x y z : Outgoing) → SentMore Gives m x y → SentMore Gives n y z → SentMore Gives (m + n) x z
more_then Gives m n x y z h k = record {
  to = k.to ∙ h.to;
  link = k.link ∙ h.link;
  put = sent_then Gives x.to m n x.tx.messages y.tx.messages z.tx.messages h.put (subst (λ to. SentTo Gives to n y.tx.messages z.tx.messages) h.to k.put);
}

pub none_sent : (Gives : ℕ → Message → Type 0) (most : ℕ) (xs : List Outgoing) → AllZip (SentMore Gives most) xs xs
none_sent Gives most [] = tt
none_sent Gives most (x ∷ xs) = (not_sent Gives most x, none_sent Gives most xs)

pub all_then : (Gives : ℕ → Message → Type 0) (m n : ℕ) (xs ys zs : List Outgoing) → AllZip (SentMore Gives m) xs ys → AllZip (SentMore Gives n) ys zs
    → AllZip (SentMore Gives (m + n)) xs zs
all_then Gives m n [] [] [] h k = tt
all_then Gives m n [] [] (z ∷ zs) h k = absurd k
all_then Gives m n [] (y ∷ ys) zs h k = absurd h
all_then Gives m n (x ∷ xs) [] zs h k = absurd h
all_then Gives m n (x ∷ xs) (y ∷ ys) [] h k = absurd k
all_then Gives m n (x ∷ xs) (y ∷ ys) (z ∷ zs) h k = (more_then Gives m n x y z h.0 k.0, all_then Gives m n xs ys zs h.1 k.1)

-- on the first so many links one message was sent at most, on the others none
abbrev pub FirstSent : (ℕ → Message → Type 0) → ℕ → List Outgoing → List Outgoing → Type 0
FirstSent Gives zero xs ys = ys ≡ xs
FirstSent Gives (suc k) [] ys = ys ≡ []
FirstSent Gives (suc k) (x ∷ xs) [] = ⊥
FirstSent Gives (suc k) (x ∷ xs) (y ∷ ys) = SentMore Gives 1 x y × FirstSent Gives k xs ys

one_more_sent : (Gives : ℕ → Message → Type 0) (k : ℕ) (xs ys : List Outgoing) (x y : Outgoing) → k < length xs → FirstSent Gives k xs ys
    → x ≡ get_or ys k x → SentMore Gives 1 x y → FirstSent Gives (suc k) xs (set ys k y)
one_more_sent Gives k [] ys x y lt h is s = absurd (omega (arith, lt))
one_more_sent Gives zero (z ∷ xs) ys x y lt h is s =
    subst (λ l. FirstSent Gives (suc zero) (z ∷ xs) (set l zero y)) (sym h) (subst (λ a. SentMore Gives 1 a y) (is ∙ ap (λ l. get_or l zero x) h) s, refl)
one_more_sent Gives (suc k) (z ∷ xs) [] x y lt h is s = absurd h
one_more_sent Gives (suc k) (z ∷ xs) (w ∷ ys) x y lt h is s = (h.0, one_more_sent Gives k xs ys x y (omega (arith, lt)) h.1 is s)

-- one of the links was sent on
pub next_sent : (Gives : ℕ → Message → Type 0) (k : ℕ) (xs ys : List Outgoing) (x y : Outgoing) → k < length xs → FirstSent Gives k xs ys
    → x ≡ get_or ys k x → SentMore Gives 1 x y → FirstSent Gives (k + 1) xs (set ys k y)
next_sent Gives k xs ys x y lt h is s =
    let next : suc k ≡ k + 1 = omega (arith) in
    subst (λ n. FirstSent Gives n xs (set ys k y)) next (one_more_sent Gives k xs ys x y lt h is s)

-- all of them were
pub all_sent : (Gives : ℕ → Message → Type 0) (k : ℕ) (xs ys : List Outgoing) → length xs ≤ k → FirstSent Gives k xs ys → AllZip (SentMore Gives 1) xs ys
all_sent Gives zero [] ys le h = subst (AllZip (SentMore Gives 1) []) (sym h) tt
all_sent Gives (suc k) [] ys le h = subst (AllZip (SentMore Gives 1) []) (sym h) tt
all_sent Gives zero (x ∷ xs) ys le h = absurd (omega (arith, le))
all_sent Gives (suc k) (x ∷ xs) [] le h = absurd h
all_sent Gives (suc k) (x ∷ xs) (y ∷ ys) le h = (h.0, all_sent Gives k xs ys (omega (arith, le)) h.1)

pub sent_from : (Gives : ℕ → Message → Type 0) (most : ℕ) (xs ys : List Outgoing) (es : List OutgoingEnd) → AllZip (SentMore Gives most) xs ys
    → AllZip IsEndOf ys es → AllZip (Sent Gives most) xs es
sent_from Gives most [] [] [] h k = tt
sent_from Gives most [] [] (e ∷ es) h k = absurd k
sent_from Gives most [] (y ∷ ys) es h k = absurd h
sent_from Gives most (x ∷ xs) [] es h k = absurd h
sent_from Gives most (x ∷ xs) (y ∷ ys) [] h k = absurd k
sent_from Gives most (x ∷ xs) (y ∷ ys) (e ∷ es) h k = (ended x y e h.0 k.0, sent_from Gives most xs ys es h.1 k.1)
  where
    ended : (x y : Outgoing) (e : OutgoingEnd) → SentMore Gives most x y → IsEndOf y e → Sent Gives most x e
    ended x y e h k = record {
      to = k.to ∙ h.to;
      link = ap (λ (t : End). t.link) k.tx ∙ h.link;
      put = subst (SentTo Gives x.to most x.tx.messages) (sym (ap (λ (t : End). t.messages) k.tx)) h.put;
    }

-- the same by other names
told : (Holds Refuses : Message → Type 0) (came sent : List Message) (n n2 : ℕ) (rx rx2 tx tx2 : End) → n2 ≡ n → rx2 ≡ rx → tx2 ≡ tx
    → Acknowledges Holds Refuses came sent n rx.messages tx.messages → Acknowledges Holds Refuses came sent n2 rx2.messages tx2.messages
told Holds Refuses came sent n n2 rx rx2 tx tx2 a b c h =
    subst (λ (m : ℕ). Acknowledges Holds Refuses came sent m rx2.messages tx2.messages) (sym a)
    (subst (λ (r : End). Acknowledges Holds Refuses came sent n r.messages tx2.messages) (sym b)
    (subst (λ (t : End). Acknowledges Holds Refuses came sent n rx.messages t.messages) (sym c) h))

pub exchanged : (Holds Refuses : Message → Type 0) (Gives : ℕ → Message → Type 0) (rounds : ℕ) (ps : List Peer) (os : List OutgoingEnd)
    (is : List IncomingEnd) (es : List PeerEnd)
    → AllZip (Sent Gives rounds) (map outgoing ps) os → AllZip (Received Holds Refuses) (map incoming ps) is → AllZip HasSent os es
    → AllZip HasReceived is es → AllZip (Exchanged Holds Refuses Gives rounds) ps es
exchanged Holds Refuses Gives rounds [] [] [] [] s r hs hr = tt
exchanged Holds Refuses Gives rounds [] [] [] (e ∷ es) s r hs hr = absurd hs
exchanged Holds Refuses Gives rounds [] [] (i ∷ is) es s r hs hr = absurd r
exchanged Holds Refuses Gives rounds [] (o ∷ os) is es s r hs hr = absurd s
exchanged Holds Refuses Gives rounds (p ∷ ps) [] is es s r hs hr = absurd s
exchanged Holds Refuses Gives rounds (p ∷ ps) (o ∷ os) [] es s r hs hr = absurd r
exchanged Holds Refuses Gives rounds (p ∷ ps) (o ∷ os) (i ∷ is) [] s r hs hr = absurd hs
exchanged Holds Refuses Gives rounds (p ∷ ps) (o ∷ os) (i ∷ is) (e ∷ es) s r hs hr
    = (one p o i e s.0 r.0 hs.0 hr.0, exchanged Holds Refuses Gives rounds ps os is es s.1 r.1 hs.1 hr.1)
  where
    one : (p : Peer) (o : OutgoingEnd) (i : IncomingEnd) (e : PeerEnd) → Sent Gives rounds (outgoing p) o → Received Holds Refuses (incoming p) i
        → HasSent o e → HasReceived i e → Exchanged Holds Refuses Gives rounds p e
    one p o i e s r hs hr = record {
      to = hs.to ∙ s.to;
      delta_tx = ap (λ t. t.link) hs.delta_tx ∙ s.link;
      ack_tx = ap (λ t. t.link) hr.ack_tx ∙ r.ack_tx;
      delta_rx = ap (λ t. t.link) hr.delta_rx ∙ r.delta_rx;
      ack_rx = ap (λ t. t.link) hr.ack_rx ∙ r.ack_rx;
      sent = subst (SentTo Gives p.to rounds p.delta_tx.messages) (sym (ap (λ (t : End). t.messages) hs.delta_tx)) s.put;
      acks_met = subst (λ (t : End). AreHeldOrRefused Holds Refuses p.ack_rx.messages t.messages) (sym hr.ack_rx) r.acks_met;
      acks_counted = omega (arith, r.acks_counted, hr.acks_refused, ap (λ (t : End). length t.messages) hr.ack_rx);
      acknowledged = told _ _ _ _ _ _ _ _ _ _ hr.refused hr.delta_rx hr.ack_tx r.acknowledged;
    }

-- the same, with nothing said of what is held, refused and given
pub any_held : (Holds Refuses : Message → Type 0) (Gives : ℕ → Message → Type 0) (rounds : ℕ) (ps : List Peer) (es : List PeerEnd)
    → AllZip (Exchanged Holds Refuses Gives rounds) ps es → AllZip (Exchanged AnyMessage AnyMessage AnyGiven rounds) ps es
any_held Holds Refuses Gives rounds [] [] h = h
any_held Holds Refuses Gives rounds [] (e ∷ es) h = h
any_held Holds Refuses Gives rounds (p ∷ ps) [] h = h
any_held Holds Refuses Gives rounds (p ∷ ps) (e ∷ es) h = (less p e h.0, any_held Holds Refuses Gives rounds ps es h.1)
  where
    all_any : (ms : List Message) → All Holds ms → All AnyMessage ms
    all_any [] a = All-nil AnyMessage
    all_any (m ∷ ms) a = All-cons AnyMessage m ms tt (all_any ms (All-tail Holds m ms a))

    all_given : (to : ℕ) (ms : List Message) → All (AnyGiven to) ms
    all_given to [] = All-nil (AnyGiven to)
    all_given to (m ∷ ms) = All-cons (AnyGiven to) m ms tt (all_given to ms)

    all_met : (ms : List Message) → All (IsHeldOrRefused AnyMessage AnyMessage) ms
    all_met [] = All-nil (IsHeldOrRefused AnyMessage AnyMessage)
    all_met (m ∷ ms) = All-cons (IsHeldOrRefused AnyMessage AnyMessage) m ms (inl tt) (all_met ms)

    any_met : (came came_now : List Message) → AreHeldOrRefused Holds Refuses came came_now → AreHeldOrRefused AnyMessage AnyMessage came came_now
    any_met came came_now h = record { got = h.got; more_came = h.more_came; each = all_met h.got }

    less : (p : Peer) (e : PeerEnd) → Exchanged Holds Refuses Gives rounds p e → Exchanged AnyMessage AnyMessage AnyGiven rounds p e
    less p e h = record {
      to = h.to;
      delta_tx = h.delta_tx;
      ack_tx = h.ack_tx;
      delta_rx = h.delta_rx;
      ack_rx = h.ack_rx;
      sent = record { put = h.sent.put; more_sent = h.sent.more_sent; for_it = h.sent.for_it; given = all_given p.to h.sent.put; few = h.sent.few };
      acks_met = any_met _ _ h.acks_met;
      acks_counted = h.acks_counted;
      acknowledged =
          let a = h.acknowledged in
          record {
            met = any_met _ _ a.met;
            taken = a.taken;
            put = a.put;
            more_sent = a.more_sent;
            among = a.among;
            held = all_any a.taken a.held;
            due = a.due;
            counted = a.counted;
          };
    }

-- the same by other names
pub exchanged_as : (n rounds : ℕ) (ps qs : List Peer) (es fs : List PeerEnd) → n ≡ rounds → ps ≡ qs → fs ≡ es
    → AllZip (Exchanged AnyMessage AnyMessage AnyGiven n) ps es → AllZip (Exchanged AnyMessage AnyMessage AnyGiven rounds) qs fs
exchanged_as n rounds ps qs es fs same of by h = subst (λ l. AllZip (Exchanged AnyMessage AnyMessage AnyGiven rounds) qs l) (sym by)
    (subst (λ l. AllZip (Exchanged AnyMessage AnyMessage AnyGiven rounds) l es) of
    (subst (λ m. AllZip (Exchanged AnyMessage AnyMessage AnyGiven m) ps es) same h))

-- one pair more at the ends of two lists
pub paired : {A B : Type 0} (R : A → B → Type 0) (xs xs' : List A) (ys ys' : List B) (x : A) (y : B) → xs ≡ xs' ++ x ∷ [] → ys ≡ ys' ++ y ∷ []
    → AllZip R xs' ys' → R x y → AllZip R xs ys
paired R xs xs' ys ys' x y p q h r = subst (λ l. AllZip R l ys) (sym p) (subst (λ l. AllZip R (xs' ++ x ∷ []) l) (sym q) (all_zip_push R xs' ys' x y h r))

-- the ends are of the links of what was handed in
pub same_links : (rounds : ℕ) (ps : List Peer) (es : List PeerEnd) → AllZip (Exchanged AnyMessage AnyMessage AnyGiven rounds) ps es
    → map linkage_left es ≡ map linkage_of ps
same_links rounds [] [] h = refl
same_links rounds [] (e ∷ es) h = absurd h
same_links rounds (p ∷ ps) [] h = absurd h
same_links rounds (p ∷ ps) (e ∷ es) h = λ i. record { delta_tx = h.0.delta_tx i; ack_tx = h.0.ack_tx i; delta_rx = h.0.delta_rx i; ack_rx = h.0.ack_rx i }
    ∷ same_links rounds ps es h.1 i

-- each site's ends are of its links
pub rows_linked : {A B : Type 0} (rounds : ℕ) (peers : A → List Peer) (ends : B → List PeerEnd) (xs : List A) (ys : List B)
    → AllZip (λ x y. AllZip (Exchanged AnyMessage AnyMessage AnyGiven rounds) (peers x) (ends y)) xs ys
    → map (λ y. map linkage_left (ends y)) ys ≡ map (λ x. map linkage_of (peers x)) xs
rows_linked rounds peers ends [] [] h = refl
rows_linked rounds peers ends [] (y ∷ ys) h = absurd h
rows_linked rounds peers ends (x ∷ xs) [] h = absurd h
rows_linked rounds peers ends (x ∷ xs) (y ∷ ys) h = λ i. same_links rounds (peers x) (ends y) h.0 i ∷ rows_linked rounds peers ends xs ys h.1 i

same_names : (rounds : ℕ) (ps : List Peer) (es : List PeerEnd) → AllZip (Exchanged AnyMessage AnyMessage AnyGiven rounds) ps es
    → map (λ e. e.to) es ≡ map (λ p. p.to) ps
same_names rounds [] [] h = refl
same_names rounds [] (e ∷ es) h = absurd h
same_names rounds (p ∷ ps) [] h = absurd h
same_names rounds (p ∷ ps) (e ∷ es) h = λ i. h.0.to i ∷ same_names rounds ps es h.1 i

-- and has the names that were handed in
pub rows_named : {A B : Type 0} (rounds : ℕ) (peers : A → List Peer) (ends : B → List PeerEnd) (xs : List A) (ys : List B)
    → AllZip (λ x y. AllZip (Exchanged AnyMessage AnyMessage AnyGiven rounds) (peers x) (ends y)) xs ys
    → map (λ y. map (λ e. e.to) (ends y)) ys ≡ map (λ x. map (λ p. p.to) (peers x)) xs
rows_named rounds peers ends [] [] h = refl
rows_named rounds peers ends [] (y ∷ ys) h = absurd h
rows_named rounds peers ends (x ∷ xs) [] h = absurd h
rows_named rounds peers ends (x ∷ xs) (y ∷ ys) h = λ i. same_names rounds (peers x) (ends y) h.0 i ∷ rows_named rounds peers ends xs ys h.1 i

left_of_new : (rounds : ℕ) (ps : List Peer) (es : List PeerEnd) → All IsNewPeer ps → AllZip (Exchanged AnyMessage AnyMessage AnyGiven rounds) ps es
    → All (IsLeftOfNew rounds) es
left_of_new rounds [] [] n h = All-nil (IsLeftOfNew rounds)
left_of_new rounds [] (e ∷ es) n h = absurd h
left_of_new rounds (p ∷ ps) [] n h = absurd h
left_of_new rounds (p ∷ ps) (e ∷ es) n h = All-cons (IsLeftOfNew rounds) e es (p, All-head IsNewPeer p ps n, h.0)
    (left_of_new rounds ps es (All-tail IsNewPeer p ps n) h.1)

-- and each was left by an exchange of new links
pub rows_left : {A B : Type 0} (rounds : ℕ) (peers : A → List Peer) (ends : B → List PeerEnd) (xs : List A) (ys : List B)
    → All (λ x. All IsNewPeer (peers x)) xs → AllZip (λ x y. AllZip (Exchanged AnyMessage AnyMessage AnyGiven rounds) (peers x) (ends y)) xs ys
    → All (λ row. All (IsLeftOfNew rounds) row) (map ends ys)
rows_left rounds peers ends [] [] n h = All-nil (λ row. All (IsLeftOfNew rounds) row)
rows_left rounds peers ends [] (y ∷ ys) n h = absurd h
rows_left rounds peers ends (x ∷ xs) [] n h = absurd h
rows_left rounds peers ends (x ∷ xs) (y ∷ ys) n h =
    All-cons (λ row. All (IsLeftOfNew rounds) row) (ends y) (map ends ys)
    (left_of_new rounds (peers x) (ends y) (All-head (λ x. All IsNewPeer (peers x)) x xs n) h.0)
    (rows_left rounds peers ends xs ys (All-tail (λ x. All IsNewPeer (peers x)) x xs n) h.1)

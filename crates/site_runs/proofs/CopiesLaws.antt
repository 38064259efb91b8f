-- Runs of sites that keep two copies.
use Rattle.std.proofs.Common.{◌≡◌, Bool, true, false, List, [], Option, Some, None, Result, Ok, Err, IfOk, IfErr, OnOk, refl, sym, ap, subst}
use Rattle.std.proofs.lemmas.Result.{IfOk-weaker, IfErr-weaker}
use Rattle.request_ledger.specs.declared.request.Request.{Request}
use Rattle.book_core.specs.declared.entry.Entry.{Entry}
use Rattle.history_keeper.specs.Keeping.{LeavesOnly}
use Rattle.mirrored_records.specs.Mirrored.{MirrorView, surviving}
use Rattle.site_exchange.specs.declared.message.Message.{Message}
use Rattle.site_exchange.specs.Exchange.{SitePart}
use Rattle.site_desk.specs.Calls.{AskAllCall, AskCall, GrowCall, Keeping, SiteCall, TakeCall}
use Rattle.site_desk.specs.SiteView.{SiteView}
use Rattle.site_runs.specs.Runs.{Asks, AsksAll, Call, Crashes, Gives, GiveCall, Grows, Happens, Restarted, Restarts, Starts, Takes}
use Rattle.site_runs.specs.Copies.{Alone, Both, CallsAreOfCopies, Copies, CopiesNeverOversell, GoesOn, LossIsARestart, copies_of, over}
use Rattle.site_runs.proofs.Sums as sums

-- a store that shows what another shows of it
abbrev seen_by : {K L : Type 0} → Keeping L → (K → L) → Keeping K
seen_by k store = record {
  failed = λ x. k.failed (store x);
  is_trusted = λ x. k.is_trusted (store x);
  kept = λ x. k.kept (store x);
  may_leave = λ x. k.may_leave (store x);
  is_of = λ x. k.is_of (store x);
}

on_ok : {T F : Type 0} {P Q : Type 0} (result : Result T F) → (P → Q) → OnOk result P → OnOk result Q
on_ok (Ok x) f p = f p
on_ok (Err e) f p = tt

module _ {K L : Type 0} (k : Keeping L) (store : K → L) (old new : SiteView K) where
  site_call : {T F : Type 0} (entry : Option Entry) (due : SitePart) (closed fault : F) (result : Result T F)
      → SiteCall (seen_by k store) old new entry due closed fault result → SiteCall k (over store old) (over store new) entry due closed fault result
  site_call entry due closed fault result s = record {
    office = s.office;
    made = s.made;
    unchanged = s.unchanged;
    shut = s.shut;
    closes = s.closes;
    untouched = IfErr-weaker result _ _ (λ e same other. ap store (same other)) s.untouched;
    stored = s.stored;
    rests = s.rests;
    stopped = s.stopped;
    site = s.site;
    trusted = s.trusted;
  }

  moved : (given : List Message) (call : Call) → Happens (seen_by k store) given old call new → Happens k given (over store old) call (over store new)
  moved given (Asks number request answer) s = record {
    call = site_call _ _ _ _ answer s.call;
    answer = s.answer;
    fault = s.fault;
    again = IfOk-weaker answer _ _ (λ a same kept. ap (over store) (same kept)) s.again;
    refused = IfErr-weaker answer _ _ (λ e same one other. ap (over store) (same one other)) s.refused;
  }
  moved given (AsksAll requests result) s = record {
    office = s.office;
    acked = s.acked;
    answered = s.answered;
    unchanged = s.unchanged;
    fault = s.fault;
    shut = s.shut;
    closes = s.closes;
    untouched = IfErr-weaker result _ _ (λ e same other. ap (over store) (same other)) s.untouched;
    stored = s.stored;
    rests = s.rests;
    still = IfOk-weaker result _ _ (λ answers same none. ap store (same none)) s.still;
    stopped = s.stopped;
    site = s.site;
    trusted = s.trusted;
  }
  moved given (Takes message answer) (genuine, s) = (
    genuine,
    record {
      call = site_call _ _ _ _ answer s.call;
      taken = s.taken;
      fault = s.fault;
      still = s.still;
      again = on_ok answer (λ same refused. ap store (same refused)) s.again;
      known = λ nothing. ap (over store) (s.known nothing);
      refused = IfErr-weaker answer _ _ (λ e same one other. ap (over store) (same one other)) s.refused;
    },
  )
  moved given (Grows sites answer) s = record {
    call = site_call _ _ _ _ answer s.call;
    growth = s.growth;
    fault = s.fault;
    refused = IfErr-weaker answer _ _ (λ e same one other. ap (over store) (same one other)) s.refused;
  }
  moved given (Gives to answer) s = record { same = ap (over store) s.same; due = s.due; fault = s.fault }
  moved given Restarts s = record {
    trusted = s.trusted;
    left = s.left;
    starts = record { history = s.starts.history; office = s.starts.office; acked = s.starts.acked; opened = s.starts.opened; rests = s.starts.rests };
  }
  moved given (Crashes in_hand stored) s
      = (s.0, s.1, record { history = s.2.history; office = s.2.office; acked = s.2.acked; opened = s.2.opened; rests = s.2.rests })

both_of : {K : Type 0} (k : Keeping K) (is_first : Bool) (given : List Message) (old new : SiteView (MirrorView K K)) (call : Call)
    → Happens (surviving is_first k k) given old call new
    → Happens (copies_of k) given (over (λ copies. Both copies is_first) old) call (over (λ copies. Both copies is_first) new)
both_of k true given old new call h = moved (copies_of k) (λ copies. Both copies true) old new given call h
both_of k false given old new call h = moved (copies_of k) (λ copies. Both copies false) old new given call h

pub calls_are_of_copies : {K : Type 0} (k : Keeping K) → CallsAreOfCopies k
calls_are_of_copies k = record {
  both = λ is_first given old new call h. both_of k is_first given old new call h;
  alone = λ given old new call h. moved (copies_of k) Alone old new given call h;
}

abbrev entries_in : Option (List Entry) → List Entry
entries_in None = []
entries_in (Some list) = list

pub loss_is_a_restart : {K : Type 0} (k : Keeping K) → LossIsARestart k
loss_is_a_restart {K = K} k old new copies is_first given g =
    let same : new.book.history ≡ old.book.history = ap entries_in (g.rests.alone (Some new.book.history) g.left) in
    let starts : Starts (copies_of k) old new new.book.history = record
    { history = refl; office = g.office; acked = g.acked; opened = g.opened; rests = g.stores } in (
      record {
        trusted = subst (λ (c : Copies K). (copies_of k).is_trusted c) (sym g.pair) g.trusted;
        left = subst (λ (c : Copies K). (copies_of k).may_leave c (Some new.book.history)) (sym g.pair) g.left;
        starts = starts;
      },
      (tt, same, starts),
      same,
    )

pub copies_never_oversell : {K : Type 0} (k : Keeping K) → CopiesNeverOversell k
copies_never_oversell k = sums.books_never_oversold (copies_of k)

-- What a request comes to at a desk, by itself or with others.
use Rattle.std.proofs.Common.{◌≡◌, ◌⊎◌, inl, inr, ℕ, Result, Ok, Err, refl, subst}
use Rattle.request_ledger.specs.declared.request.Request.{Request}
use Rattle.site_desk.specs.declared.fault.AskFault.{AskFault}
use Rattle.site_desk.specs.declared.fault.AskFault.TheVariants as ask
use Rattle.site_desk.specs.declared.receipt.Receipt.{Receipt}
use Rattle.live_office.specs.Admissible.{Admissible, IsShut, telling}
use Rattle.live_office.specs.Together.{IsAskedAs, receipt_at}

-- a desk refused the request
pub refused : {K : Type 0} (d : Admissible K) (number : ℕ) (request : Request) (fault : AskFault) → (telling d).refuses number request fault
    → IsAskedAs d number request (Err fault)
refused d number request ask.Closed h = h
refused d number request (ask.Reused place) h = h
refused d number request ask.Full h = h
refused d number request ask.Memory h = h
refused d number request ask.Store h = ∣ h.1 refl ∣₁

-- a receipt of the request is its own
pub its_receipt : {K : Type 0} (d : Admissible K) (number : ℕ) (request : Request) (receipt : Receipt) → IsAskedAs d number request (Ok receipt)
    → IsAskedAs d number request (Ok (receipt_at number request receipt.reply receipt.place))
its_receipt d number request receipt h =
    (refl, refl, subst (λ (p : ℕ × Request). ∥ (telling d).receipts (receipt_at p.0 p.1 receipt.reply receipt.place) ∥₁) (λ i. (h.0 i, h.1 i)) h.2)

-- a failed store closed the desk
pub shut_by : {K : Type 0} (d : Admissible K) (number : ℕ) (request : Request) (fault : AskFault) → (fault ≡ ask.Store) ⊎ (fault ≡ ask.Closed)
    → IsAskedAs d number request (Err fault) → ∥ IsShut d ∥₁
shut_by d number request fault (inl is) h = subst (λ f. IsAskedAs d number request (Err f)) is h
shut_by d number request fault (inr is) h =
    let refused : (telling d).refuses number request ask.Closed = subst (λ f. IsAskedAs d number request (Err f)) is h in
    ∣ record { site = refused.0.site; at_desk = refused.0.at_desk; holds = refused.0.holds } ∣₁

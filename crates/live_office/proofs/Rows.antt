-- Requests that a caller sent in a row.
use Rattle.std.proofs.Common.{◌≡◌, ℕ, List, [], ◌∷◌, ◌++◌, map, Option, Some, refl, sym, ap, ◌∙◌}
use Rattle.plain_words.specs.Input.{lines_of}
use Rattle.plain_words.proofs.LineLaws.{read-push}
use Rattle.request_ledger.specs.declared.request.Request.{Request}
use Rattle.live_office.specs.Ahead.{AreFirst, asked_in}

-- the lines that were read so far, and what they ask
pub record Row (bytes rest : List ℕ) (requests : List (ℕ × Request)) : Type 0 where
  pub lines : List (List ℕ)
  pub read : lines_of bytes ≡ lines ++ lines_of rest
  pub asked : map asked_in lines ≡ map Some requests

pub row_begins : (bytes : List ℕ) → Row bytes bytes []
row_begins bytes = record { lines = []; read = refl; asked = refl }

map_snoc : {A B : Type 0} (f : A → B) (xs : List A) (x : A) → map f (xs ++ x ∷ []) ≡ map f xs ++ f x ∷ []
map_snoc f [] x = refl
map_snoc f (y ∷ xs) x = ap (λ l. f y ∷ l) (map_snoc f xs x)

-- one line more, and the request that it asks
pub row_goes_on : (bytes rest rest' line : List ℕ) (requests requests' : List (ℕ × Request)) (request : ℕ × Request) → Row bytes rest requests
    → lines_of rest ≡ line ∷ lines_of rest' → asked_in line ≡ Some request → requests' ≡ requests ++ request ∷ [] → Row bytes rest' requests'
row_goes_on bytes rest rest' line requests requests' request h read asks is = record {
  lines = h.lines ++ line ∷ [];
  read = read-push (Some bytes) (Some rest) (Some rest') h.lines line h.read read;
  asked = map_snoc asked_in h.lines line ∙ (λ i. h.asked i ++ asks i ∷ []) ∙ sym (map_snoc Some requests request) ∙ ap (map Some) (sym is);
}

pub row_is_first : (bytes rest : List ℕ) (requests : List (ℕ × Request)) → Row bytes rest requests → AreFirst bytes requests
row_is_first bytes rest requests h = (h.lines, lines_of rest, h.read, h.asked)

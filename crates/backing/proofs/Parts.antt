-- Elements of a row of numbers, in parts and joined.
use Rattle.std.proofs.Common.{◌≡◌, ℕ, ◌+◌, ◌-◌, ◌<◌, List, length, take, drop, replicate, ◌++◌, cond, ltb, get_or, sym, ap, ◌∙◌, ⊎_elim, arith, get_or-drop, get_or-take}
use Rattle.std.proofs.Math.ListN.{get_or-append}
use Rattle.std.proofs.Math.Seq.{get_or-append_right}
use Rattle.std.proofs.lemmas.Bool.{cases_lt, cond-true, cond-false, lt-ltb, le-ltb}
use Rattle.std.proofs.lemmas.List.{get_or-replicate, length-replicate, get_or_past}

-- an element of a part
pub get_or-part : {X : Type 0} (a n : ℕ) (xs : List X) (j : ℕ) (d : X) → j < n → get_or (take n (drop a xs)) j d ≡ get_or xs (a + j) d
get_or-part a n xs j d h = get_or-take n (drop a xs) j d h ∙ get_or-drop a xs j d

-- zeros
pub zeros_only : (n : ℕ) (xs : List ℕ) → xs ≡ replicate n 0 → (k : ℕ) → get_or xs k 0 ≡ 0
zeros_only n xs e k =
    ⊎_elim
    (λ h. ap (λ l. get_or l k 0) e ∙ get_or-replicate n k 0 0 h)
    (λ h. get_or_past xs k 0 (omega (arith, ap length e, length-replicate {A = ℕ} n 0)))
    (cases_lt k n)

-- one list after another
pub get_or-joined : (xs ys : List ℕ) (k : ℕ) → get_or (xs ++ ys) k 0 ≡ cond (ltb k (length xs)) (get_or xs k 0) (get_or ys (k - length xs) 0)
get_or-joined xs ys k =
    ⊎_elim
    (λ h. get_or-append xs ys 0 k h ∙ sym (cond-true _ _ _ (lt-ltb k (length xs) h)))
    (λ h. get_or-append_right xs ys k 0 h ∙ sym (cond-false _ _ _ (le-ltb k (length xs) h)))
    (cases_lt k (length xs))

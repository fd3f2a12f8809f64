-- Some runs put in the place of others.
use Rattle.std.proofs.Common.{◌≡◌, ℕ, ◌+◌, ◌-◌, ◌≤◌, List, ◌++◌, length, take, drop, sym, refl, ap, ◌∙◌, append_assoc, arith, length-append, length-drop, length-take, take-take, drop-drop, take_at, drop_at}
use lib.Seq.{paste, take-append-le}
use borrow.Rule.Slice.PartMut.{put_mid}
use Rattle.std.proofs.lemmas.List.Edits.{split_between}
use Rattle.std.proofs.lemmas.Slice.{between_is, put_mid-paste}

module _ {X : Type 0} (xs new : List X) (len at past : ℕ) (order : at ≤ past) (within : past ≤ len) (used : len ≤ length xs) (fits : at + length new + (len - past) ≤ length xs) where
  abbrev to : ℕ
  to = at + length new

  abbrev size : ℕ
  size = to + (len - past)

  abbrev tail : List X
  tail = take (len - past) (drop past xs)

  -- the tail moved to its new place
  abbrev moved : List X
  moved = paste xs to (drop past xs) (len - past)

  front_long : length (take to xs) ≡ to
  front_long = omega (arith, length-take to xs)

  moved_is : moved ≡ take to xs ++ (tail ++ drop size xs)
  moved_is = append_assoc (take to xs) tail (drop size xs)

  -- what is written over it
  pub written : (zs ys : List X) → zs ≡ moved → ys ≡ paste zs at new (length new) → ys ≡ put_mid at (to - at) moved new
  written zs ys e f =
      let n : to - at ≡ length new = omega arith in
      f ∙ ap (λ l. paste l at new (length new)) e ∙ sym (put_mid-paste at (to - at) moved new new (length new) refl (sym n) refl)

  kept_front : take at moved ≡ take at xs
  kept_front =
      ap (take at) moved_is ∙ take-append-le at (take to xs) (tail ++ drop size xs) (omega (arith, front_long)) ∙ take-take at to xs (omega arith)

  kept_back : drop (to - at) (drop at moved) ≡ tail ++ drop size xs
  kept_back =
      let e : at + (to - at) ≡ to = omega arith in
      drop-drop (to - at) at moved ∙ ap (λ i. drop i moved) e ∙ ap (drop to) moved_is ∙ drop_at (take to xs) (tail ++ drop size xs) to front_long

  put : put_mid at (to - at) moved new ≡ (take at xs ++ (new ++ tail)) ++ drop size xs
  put =
      ap (λ ys. ys ++ (new ++ drop (to - at) (drop at moved))) kept_front ∙ ap (λ ys. take at xs ++ (new ++ ys)) kept_back
      ∙ ap (λ ys. take at xs ++ ys) (sym (append_assoc new tail (drop size xs)))
      ∙ sym (append_assoc (take at xs) (new ++ tail) (drop size xs))

  long : length (take at xs ++ (new ++ tail)) ≡ size
  long = omega (arith, length-append (take at xs) (new ++ tail), length-append new tail, length-take at xs, length-take (len - past) (drop past xs), length-drop past xs)

  pub spliced_front : (ys : List X) → ys ≡ put_mid at (to - at) moved new → take size ys ≡ take at (take len xs) ++ (new ++ drop past (take len xs))
  spliced_front ys e =
      ap (take size) (e ∙ put) ∙ take_at (take at xs ++ (new ++ tail)) (drop size xs) size long
      ∙ ap (λ zs. zs ++ (new ++ tail)) (sym (take-take at len xs (omega arith)))
      ∙ ap (λ zs. take at (take len xs) ++ (new ++ zs)) (between_is xs past len)

  pub spliced_rest : (ys : List X) → ys ≡ put_mid at (to - at) moved new → drop size ys ≡ drop size xs
  spliced_rest ys e = ap (drop size) (e ∙ put) ∙ drop_at (take at xs ++ (new ++ tail)) (drop size xs) size long

-- what is moved to where it stands stays
pub shifted_none : {X : Type 0} (xs : List X) (past len to : ℕ) → past ≤ len → to ≡ past → xs ≡ paste xs to (drop past xs) (len - past)
shifted_none xs past len to within e =
    let f : past + (len - past) ≡ len = omega arith in
    sym (ap (λ i. paste xs i (drop past xs) (len - past)) e
    ∙ append_assoc (take past xs) (take (len - past) (drop past xs)) (drop (past + (len - past)) xs)
    ∙ ap (λ i. take past xs ++ (take (len - past) (drop past xs) ++ drop i xs)) f
    ∙ sym (split_between xs past len within))

-- The words of a line that was cut at its first spaces. Assumes nothing.
use Rattle.std.proofs.Common.{◌≡◌, ℕ, true, false, eqb, ◌⊎◌, List, [], ◌∷◌, ◌++◌, Some, None, Option, Ok, Err, Result, sym, refl, ap, ◌∙◌, inl, inr, ⊎_elim}
use Rattle.std.specs.List.{All, onto_first}
use Rattle.std.specs.Option.{option_and_then}
use Rattle.std.specs.Result.{IsErrAnd, result_ok}
use Rattle.std.specs.Str.Iter.{LacksByte}
use Rattle.std.specs.Char.{is_ascii_digit}
use Rattle.std.specs.Str.{all_ascii_digits}
use Rattle.std.proofs.lemmas.Bool.{cases_Bool, cond-false, eqb-true, ne_eqb, and_left, and_right}
use Rattle.std.proofs.lemmas.List.{get_or_default}
use Rattle.std.proofs.lemmas.List.Splits.{slice_split_none, slice_split_at, slice_split-cons_yes, slice_split-cons_no}
use Rattle.requests.specs.declared.Request.{Request}
use Rattle.requests.specs.Lines.{number_of, words_of, alone, with_one, with_two, spelled, request_of}

-- a text with no space, as the lemmas on `slice_split` say it
no_space : (bs : List ℕ) → LacksByte 32 bs → All (λ b. eqb b 32 ≡ false) bs
no_space bs h k d l = ne_eqb _ 32 (λ e. h k l (get_or_default bs k 0 d l ∙ e))

-- a line with no space is one word
whole : (bs : List ℕ) → LacksByte 32 bs → words_of bs ≡ bs ∷ []
whole bs h = slice_split_none (λ b. eqb b 32) bs (no_space bs h)

-- the first space ends the first word
cut : (xs ys : List ℕ) → LacksByte 32 xs → words_of (xs ++ (32 ∷ ys)) ≡ xs ∷ words_of ys
cut xs ys h = slice_split_at (λ b. eqb b 32) xs 32 ys (no_space xs h) refl

-- a text is one word, or it is more and has a byte that is no digit
abbrev OneOrMore : List ℕ → List (List ℕ) → Type 0
OneOrMore bs ws = (ws ≡ bs ∷ []) ⊎ ((v : List ℕ) × (w : List ℕ) × (more : List (List ℕ)) × (ws ≡ v ∷ w ∷ more) × (all_ascii_digits bs ≡ false))

some_word : (bs : List ℕ) → (w : List ℕ) × (more : List (List ℕ)) × (words_of bs ≡ w ∷ more)
some_word [] = ([], [], refl)
some_word (b ∷ bs) =
    ⊎_elim
    (λ t. ([], words_of bs, slice_split-cons_yes _ b bs t))
    (λ t. let s = some_word bs in (b ∷ s.0, s.1, slice_split-cons_no _ b bs t ∙ ap (onto_first b) s.2))
    (cases_Bool (eqb b 32))

space_no_digit : (b : ℕ) → eqb b 32 ≡ true → is_ascii_digit b ≡ false
space_no_digit b t = let e = eqb-true b 32 t in ap is_ascii_digit e

one_or_more : (bs : List ℕ) → OneOrMore bs (words_of bs)
one_or_more [] = inl refl
one_or_more (b ∷ bs) =
    ⊎_elim
    (λ t.
    let s = some_word bs in
    inr ([], s.0, s.1, slice_split-cons_yes _ b bs t ∙ ap (λ ws. [] ∷ ws) s.2, and_left _ _ (space_no_digit b t)))
    (λ t.
    ⊎_elim
    (λ e. inl (slice_split-cons_no _ b bs t ∙ ap (onto_first b) e))
    (λ s. inr (b ∷ s.0, s.1, s.2, slice_split-cons_no _ b bs t ∙ ap (onto_first b) s.3, and_right _ _ s.4))
    (one_or_more bs))
    (cases_Bool (eqb b 32))

no_number : (bs : List ℕ) → all_ascii_digits bs ≡ false → number_of bs ≡ None
no_number bs h = cond-false _ _ _ (and_right _ _ (and_left _ _ h))

never : (o : Option ℕ) → None ≡ option_and_then {U = Request} (λ a. None) o
never None = refl
never (Some n) = refl

pub alone_read : (line : List ℕ) → LacksByte 32 line → request_of line ≡ alone line
alone_read line h = ap spelled (whole line h)

pub one_read : (line word text : List ℕ) → line ≡ word ++ (32 ∷ text) → LacksByte 32 word → LacksByte 32 text → request_of line ≡ option_and_then (with_one word) (number_of text)
one_read line word text e h k = ap request_of e ∙ ap spelled (cut word text h ∙ ap (λ ws. word ∷ ws) (whole text k))

-- the second text may hold a space, but is then no number
last_two : (word first second : List ℕ) → spelled (word ∷ first ∷ words_of second) ≡ option_and_then (λ a. option_and_then (with_two word a) (number_of second)) (number_of first)
last_two word first second =
    ⊎_elim
    (λ e. ap (λ ws. spelled (word ∷ first ∷ ws)) e)
    (λ s.
    ap (λ ws. spelled (word ∷ first ∷ ws)) s.3 ∙ never (number_of first)
    ∙ ap (λ o. option_and_then (λ a. option_and_then (with_two word a) o) (number_of first)) (sym (no_number second s.4)))
    (one_or_more second)

pub two_read : (line word text first second : List ℕ) → line ≡ word ++ (32 ∷ text) → LacksByte 32 word → text ≡ first ++ (32 ∷ second) → LacksByte 32 first → request_of line ≡ option_and_then (λ a. option_and_then (with_two word a) (number_of second)) (number_of first)
two_read line word text first second e h f k =
    ap request_of e ∙ ap spelled (cut word text h ∙ ap (λ ws. word ∷ ws) (ap words_of f ∙ cut first second k)) ∙ last_two word first second

pub given : (o : Option ℕ) (n : ℕ) (f : ℕ → Option Request) → Some n ≡ o → option_and_then f o ≡ f n
given o n f e = ap (option_and_then f) (sym e)

pub missing : (o : Option ℕ) (f : ℕ → Option Request) → None ≡ o → option_and_then f o ≡ None
missing o f e = ap (option_and_then f) (sym e)

-- an error that `?` passes on has no value
pub failed : {T E : Type 0} (Q : E → Type 0) (r : Result T E) → IsErrAnd r Q → result_ok r ≡ None
failed Q (Ok x) h = absurd h
failed Q (Err e) h = refl

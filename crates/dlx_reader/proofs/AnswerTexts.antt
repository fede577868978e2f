-- The texts of lists of items and options, from a place on.
use Rattle.std.proofs.Common.{◌≡◌, ℕ, ◌+◌, ◌<◌, List, ◌∷◌, ◌++◌, length, get_or, drop, add-one, drop-cons, refl, take, ◌-◌, ◌≤◌, [], arith, suc, ap, sym, ◌∙◌, append-nil, Option}
use Rattle.dlx_reader.specs.Devices.{AppendsFront}
use Rattle.dlx_reader.specs.Buffering.{Buffers}
use Rattle.dlx_reader.proofs.Buffered.{Passing, buffering_on, buffering_fault}
use Rattle.std.proofs.Math.Seq.{take-length}
use Rattle.std.specs.List.{flat_map, zip}
use Rattle.std.proofs.lemmas.List.Elements.{All-drop, All-take}
use Rattle.cover_problem.specs.Prefix.{AreOptions}
use Rattle.cover_problem.specs.Problem.{Problem}
use Rattle.dlx_reader.specs.Writing.{word_text, words_text, words_after, option_text}

-- the first option, and the others, as a slice's pattern gives them
pub options_split : (p : Problem) (os : List ℕ) → 1 ≤ length os → flat_map (option_text p) os ≡ option_text p (get_or os 0 0) ++ flat_map (option_text p) (take (length os - 1) (drop 1 os))
options_split p [] h = absurd (omega arith)
options_split p (o ∷ os) h =
    let n : suc (length os) - 1 ≡ length os = omega arith in
    let e : take (suc (length os) - 1) os ≡ os = rw n (take-length os) in
    ap (λ t. option_text p o ++ flat_map (option_text p) t) (sym e)

-- each of the others is an option still
pub others_are : (p : Problem) (os : List ℕ) → AreOptions p os → AreOptions p (take (length os - 1) (drop 1 os))
others_are p os all = All-take (λ o. o < length p.options) (length os - 1) (drop 1 os) (All-drop (λ o. o < length p.options) 1 os all)

-- the first option's line was passed on, and those of the others are left
pub option_on : (p : Problem) (w x y : List ℕ) (a b c : Option (List ℕ)) (os whole : List ℕ) → Passing w x a b (flat_map (option_text p) os) whole → 1 ≤ length os → Buffers x y b c (option_text p (get_or os 0 0)) → Passing w y a c (flat_map (option_text p) (take (length os - 1) (drop 1 os))) whole
option_on p w x y a b c os whole passing some piece = buffering_on w x y a b c (option_text p (get_or os 0 0)) (flat_map (option_text p) (take (length os - 1) (drop 1 os))) whole (rw (options_split p os some) at passing) piece

-- a fault came in the first option's line
pub option_fault : (p : Problem) (w x : List ℕ) (a b c : Option (List ℕ)) (os whole : List ℕ) → Passing w x a b (flat_map (option_text p) os) whole → 1 ≤ length os → AppendsFront b c (x ++ option_text p (get_or os 0 0)) → AppendsFront a c (w ++ whole)
option_fault p w x a b c os whole passing some piece = buffering_fault w x a b c (option_text p (get_or os 0 0)) (flat_map (option_text p) (take (length os - 1) (drop 1 os))) whole (rw (options_split p os some) at passing) piece

-- the first word, and each other after a space
words_cons : (p : Problem) (first : ℕ × ℕ) (others : List (ℕ × ℕ)) → words_text p (first ∷ others) ≡ word_text p first ++ words_after p others
words_cons p first [] = sym (append-nil (word_text p first))
words_cons p first (next ∷ others) = ap (λ t. word_text p first ++ (32 ∷ t)) (words_cons p next others)

-- what a slice's pattern leaves behind the first
rest_is : (x : ℕ) (xs : List ℕ) → take (length (x ∷ xs) - 1) (drop 1 (x ∷ xs)) ≡ xs
rest_is x xs = let n : suc (length xs) - 1 ≡ length xs = omega arith in rw n (take-length xs)

-- the first item with its colour, and the others, as two slices' patterns give them
abbrev pub others_of : List ℕ → List ℕ → List (ℕ × ℕ)
others_of items colours = zip (take (length items - 1) (drop 1 items)) (take (length colours - 1) (drop 1 colours))

pub pairs_split : (items colours : List ℕ) → 1 ≤ length items → 1 ≤ length colours → zip items colours ≡ (get_or items 0 0, get_or colours 0 0) ∷ others_of items colours
pairs_split [] colours some h = absurd (omega arith)
pairs_split (i ∷ is) [] some h = absurd (omega arith)
pairs_split (i ∷ is) (c ∷ cs) some h = rw (rest_is i is, rest_is c cs) refl

pub words_split : (p : Problem) (items colours : List ℕ) → 1 ≤ length items → 1 ≤ length colours → words_text p (zip items colours) ≡ word_text p (get_or items 0 0, get_or colours 0 0) ++ words_after p (others_of items colours)
words_split p items colours some h = ap (words_text p) (pairs_split items colours some h) ∙ words_cons p (get_or items 0 0, get_or colours 0 0) (others_of items colours)

-- the word at a place, and those behind it
pub words_step : (p : Problem) (items colours : List ℕ) (k : ℕ) → k < length items → length colours ≡ length items → words_after p (zip (drop k items) (drop k colours)) ≡ (32 ∷ word_text p (get_or items k 0, get_or colours k 0)) ++ words_after p (zip (drop (k + 1) items) (drop (k + 1) colours))
words_step p items colours k inside long =
    let within : k < length colours = omega arith in
    let next : zip (drop k items) (drop k colours) ≡ (get_or items k 0, get_or colours k 0) ∷ zip (drop (suc k) items) (drop (suc k) colours) = rw (drop-cons items k 0, drop-cons colours k 0) refl in
    let after : suc k ≡ k + 1 = sym (add-one k) in
    ap (words_after p) next ∙ ap (λ n. (32 ∷ word_text p (get_or items k 0, get_or colours k 0)) ++ words_after p (zip (drop n items) (drop n colours))) after

-- What is found under a name.
use Rattle.std.proofs.Common.{◌≡◌, ℕ, ◌+◌, ◌<◌, List, [], ◌∷◌, ◌++◌, length, Option, Some, None, Bool, true, false, nat_eq, refl, sym, ap, ◌∙◌, arith, IfSome, cond, add-one, suc, ◌||◌, is_some, get_or}
use Rattle.std.proofs.lemmas.Bool.{true≢false, false_from_ne_true}
use Rattle.std.specs.Option.{option_map}
use Rattle.std.specs.Cmp.Lexicographic.{pointwise, bytes_decides}
use Rattle.dlx_reader.specs.Names.{is_among, item_named}

-- it is the number of one of the names
pub named_within : (names : List (List ℕ)) (word : List ℕ) → IfSome (item_named names word) (λ item. item < length names)
unfolding item_named
named_within [] word = tt
named_within (name ∷ names) word =
    elim (pointwise nat_eq name word) as (λ b. IfSome (cond b (Some 0) (option_map (λ item. item + 1) (item_named names word))) (λ item. item < length (name ∷ names))) [
      | true ↦ omega arith
      | false ↦ later (item_named names word) (named_within names word)
    ]
  where
    later : (found : Option ℕ) → IfSome found (λ item. item < length names) → IfSome (option_map (λ item. item + 1) found) (λ item. item < length (name ∷ names))
    later None h = tt
    later (Some i) h = omega arith

-- neither the first name nor a later one is the word
not_first : (b : Bool) (found : Option ℕ) → cond b (Some 0) (option_map (λ item. item + 1) found) ≡ None → (b ≡ false) × (found ≡ None)
not_first true found h = absurd (cc)
not_first false None h = (refl, refl)
not_first false (Some i) h = absurd (cc)

push_step : (b d : Bool) (found more : Option ℕ) (n : ℕ) → (b ≡ true → d ≡ false) → cond d (Some n) found ≡ more → cond d (Some (suc n)) (cond b (Some 0) (option_map (λ item. item + 1) found)) ≡ cond b (Some 0) (option_map (λ item. item + 1) more)
push_step true true found more n apart e = absurd (true≢false (apart refl))
push_step true false found more n apart e = refl
push_step false true found more n apart e = ap Some (sym (add-one n)) ∙ ap (option_map (λ item. item + 1)) e
push_step false false found more n apart e = ap (option_map (λ item. item + 1)) e

-- a word is one name only
pub one_word : (name added word : List ℕ) → pointwise nat_eq name added ≡ false → pointwise nat_eq name word ≡ true → pointwise nat_eq added word ≡ false
one_word name added word apart same =
    false_from_ne_true (pointwise nat_eq added word) (λ h. true≢false (sym ((bytes_decides name added).1 ((bytes_decides name word).0 same ∙ sym ((bytes_decides added word).0 h))) ∙ apart))

-- a further name is found last
pub named-push : (names : List (List ℕ)) (added word : List ℕ) → item_named names added ≡ None → cond (pointwise nat_eq added word) (Some (length names)) (item_named names word) ≡ item_named (names ++ added ∷ []) word
unfolding item_named
named-push [] added word fresh = refl
named-push (name ∷ names) added word fresh =
    let parts = not_first (pointwise nat_eq name added) (item_named names added) fresh in
    push_step (pointwise nat_eq name word) (pointwise nat_eq added word) (item_named names word) (item_named (names ++ added ∷ []) word) (length names) (one_word name added word parts.0) (named-push names added word parts.1)

-- an equation of lists in place of three
pub pushed : (after old names : List (List ℕ)) (name word : List ℕ) → after ≡ old ++ name ∷ [] → old ≡ names → name ≡ word → after ≡ names ++ word ∷ []
pushed after old names name word last front same = cc

-- a word has a number where it is among the names
pub is_some-named : (names : List (List ℕ)) (word : List ℕ) → is_some (item_named names word) ≡ is_among names word
unfolding item_named
is_some-named [] word = refl
is_some-named (name ∷ names) word = first (pointwise nat_eq name word) (item_named names word) (is_some-named names word)
  where
    first : (b : Bool) (found : Option ℕ) → is_some found ≡ is_among names word → is_some (cond b (Some 0) (option_map (λ item. item + 1) found)) ≡ b || is_among names word
    first true found e = refl
    first false None e = e
    first false (Some i) e = e

pub none-named : (names : List (List ℕ)) (word : List ℕ) → is_among names word ≡ false → item_named names word ≡ None
none-named names word fresh = none (item_named names word) (is_some-named names word ∙ fresh)
  where
    none : (found : Option ℕ) → is_some found ≡ false → found ≡ None
    none None e = refl
    none (Some i) e = absurd (true≢false e)

next_named : (found : Option ℕ) (item : ℕ) → option_map (λ i. i + 1) found ≡ Some item → (i : ℕ) × ((found ≡ Some i) × (suc i ≡ item))
next_named None item e = absurd (cc)
next_named (Some i) item e = let same : i + 1 ≡ item = cc in (i, (refl, sym (add-one i) ∙ same))

-- the name with the number that is found is the word
pub named_at : (names : List (List ℕ)) (word : List ℕ) (item : ℕ) → item_named names word ≡ Some item → (item < length names) × (get_or names item [] ≡ word)
unfolding item_named
named_at [] word item h = absurd (cc)
named_at (name ∷ names) word item h =
    (elim (pointwise nat_eq name word) as (λ b. pointwise nat_eq name word ≡ b → cond b (Some 0) (option_map (λ i. i + 1) (item_named names word)) ≡ Some item → (item < length (name ∷ names)) × (get_or (name ∷ names) item [] ≡ word)) [
      | true ↦ λ same e. let first : 0 ≡ item = cc in rw (← first) (omega arith, (bytes_decides name word).0 same)
      | false ↦ λ other e.
          let later = next_named (item_named names word) item e in
          let rest = named_at names word later.0 later.1.0 in
          rw (← later.1.1) (omega (arith, rest.0), rest.1)
    ]) refl h

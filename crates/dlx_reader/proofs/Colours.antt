-- Colours: their names, each where it first stands, and their numbers.
use Rattle.std.proofs.Common.{◌≡◌, ℕ, ◌+◌, ◌<◌, ◌≤◌, List, [], ◌∷◌, ◌++◌, length, Option, Some, None, Result, Ok, Err, Bool, true, false, nat_eq, nat_lt, not, ◌&&◌, ◌||◌, ◌==◌, cond, refl, sym, ap, ◌∙◌, arith, append_assoc, append-nil, length-append, get_or, filter, is_some, map, suc, add-one}
use Rattle.std.specs.List.{list_all, list_any}
use Rattle.std.proofs.Math.ListN.{replicate}
use Rattle.std.specs.Cmp.Lexicographic.{pointwise, bytes_decides}
use Rattle.std.proofs.lemmas.Bool.{and_parts, and_from, or_parts, lt-ltb, le-ltb, ltb-true, ltb-false, eqb-true}
use Rattle.std.proofs.lemmas.List.{get_or_append_left, get_or_push, map-append, nil_from_length}
use Rattle.std.proofs.lemmas.List.Elements.{filter-append}
use Rattle.std.proofs.lemmas.List.Folds.{list_all-append}
use Rattle.cover_problem.specs.Numbers.{are_below}
use Rattle.cover_problem.specs.Problem.{is_name, names_differ}
use Rattle.dlx_reader.specs.Faults.{first_of}
use Rattle.dlx_reader.specs.Names.{is_among, item_named}
use Rattle.dlx_reader.specs.Occurrences.{has_colon, colour_part}
use Rattle.dlx_reader.specs.OptionLines.{names_of, firsts_of}
use Rattle.dlx_reader.specs.Reading.{◌>>=◌, colour_found, colour_at, colours_from}
use Rattle.dlx_reader.specs.declared.fault.ReadFault.{ReadFault}
use Rattle.dlx_reader.specs.declared.fault.ReadFault.TheVariants as faults
use Rattle.dlx_reader.proofs.Differing.{names_differ-push}
use Rattle.dlx_reader.proofs.Firsts.{after_ok}
use Rattle.dlx_reader.proofs.Naming.{named_at, is_some-named}
use Rattle.dlx_reader.proofs.Parts.{no_colon}
use Rattle.dlx_reader.proofs.Placed.{fault_of}

-- ---- each name where it first stands

-- the names that aren't this one
abbrev others_than : List ℕ → List (List ℕ) → List (List ℕ)
others_than name names = filter (λ other. not (pointwise nat_eq name other)) names

-- another name stays among them
among_others : (name word : List ℕ) (names : List (List ℕ)) → pointwise nat_eq name word ≡ false → is_among (others_than name names) word ≡ is_among names word
among_others name word [] apart = refl
among_others name word (first ∷ names) apart =
    (elim (pointwise nat_eq name first) as (λ b. pointwise nat_eq name first ≡ b → is_among (cond (not b) (first ∷ others_than name names) (others_than name names)) word ≡ (pointwise nat_eq first word || is_among names word)) [
      | true ↦ λ same.
          let other : pointwise nat_eq first word ≡ false = ap (λ n. pointwise nat_eq n word) (sym ((bytes_decides name first).0 same)) ∙ apart in
          rw other (among_others name word names apart)
      | false ↦ λ differ. ap (λ b. pointwise nat_eq first word || b) (among_others name word names apart)
    ]) refl

-- the names, and a further one where it is new
abbrev with_new : List (List ℕ) → List ℕ → List (List ℕ)
with_new names name = cond (is_among names name) names (names ++ name ∷ [])

firsts_of-push : (names : List (List ℕ)) (name : List ℕ) → firsts_of (names ++ name ∷ []) ≡ with_new (firsts_of names) name
firsts_of-push [] name = refl
firsts_of-push (first ∷ names) name =
    ap (λ all. first ∷ others_than first all) (firsts_of-push names name)
    ∙ (elim (pointwise nat_eq first name) as (λ b. pointwise nat_eq first name ≡ b → first ∷ others_than first (with_new (firsts_of names) name) ≡ cond (b || is_among (others_than first (firsts_of names)) name) (first ∷ others_than first (firsts_of names)) (first ∷ (others_than first (firsts_of names) ++ name ∷ []))) [
      | true ↦ λ same. ap (λ all. first ∷ all) (again same)
      | false ↦ λ apart. rw (among_others first name (firsts_of names) apart) (further apart (is_among (firsts_of names) name))
    ]) refl
  where
    pushed : (b : Bool) → pointwise nat_eq first name ≡ b → others_than first (firsts_of names ++ name ∷ []) ≡ others_than first (firsts_of names) ++ cond (not b) (name ∷ []) []
    pushed b is = filter-append (λ other. not (pointwise nat_eq first other)) (firsts_of names) (name ∷ []) ∙ ap (λ c. others_than first (firsts_of names) ++ cond (not c) (name ∷ []) []) is

    again : pointwise nat_eq first name ≡ true → others_than first (with_new (firsts_of names) name) ≡ others_than first (firsts_of names)
    again same =
        elim (is_among (firsts_of names) name) as (λ b. others_than first (cond b (firsts_of names) (firsts_of names ++ name ∷ [])) ≡ others_than first (firsts_of names)) [
          | true ↦ refl
          | false ↦ pushed true same ∙ append-nil (others_than first (firsts_of names))
        ]

    further : pointwise nat_eq first name ≡ false → (b : Bool) → first ∷ others_than first (cond b (firsts_of names) (firsts_of names ++ name ∷ [])) ≡ cond b (first ∷ others_than first (firsts_of names)) (first ∷ (others_than first (firsts_of names) ++ name ∷ []))
    further apart true = refl
    further apart false = ap (λ all. first ∷ all) (pushed false apart)

-- ---- the different colours

-- the colours of a list, each where it first stands, without those that have no name
abbrev pub different : List (List ℕ) → List (List ℕ)
different colours = firsts_of (filter (λ colour. not (length colour == 0)) colours)

-- the names, and that of a colour where it is new
abbrev pub with_colour : List (List ℕ) → List ℕ → List (List ℕ)
with_colour names colour = cond (length colour == 0) names (with_new names colour)

pub different-push : (colours : List (List ℕ)) (colour : List ℕ) → different (colours ++ colour ∷ []) ≡ with_colour (different colours) colour
different-push colours colour =
    ap firsts_of (filter-append (λ c. not (length c == 0)) colours (colour ∷ []))
    ∙ (elim (length colour == 0) as (λ b. firsts_of (filter (λ c. not (length c == 0)) colours ++ cond (not b) (colour ∷ []) []) ≡ cond b (different colours) (with_new (different colours) colour)) [
      | true ↦ ap firsts_of (append-nil (filter (λ c. not (length c == 0)) colours))
      | false ↦ firsts_of-push (filter (λ c. not (length c == 0)) colours) colour
    ])

with_colour-le : (names : List (List ℕ)) (colour : List ℕ) → length names ≤ length (with_colour names colour)
with_colour-le names colour =
    elim (length colour == 0) as (λ b. length names ≤ length (cond b names (with_new names colour))) [
      | true ↦ omega arith
      | false ↦
          elim (is_among names colour) as (λ b. length names ≤ length (cond b names (names ++ colour ∷ []))) [
            | true ↦ omega arith
            | false ↦ omega (arith, length-append names (colour ∷ []))
          ]
    ]

-- there are no fewer where more follow
pub different-le : (colours more : List (List ℕ)) → length (different colours) ≤ length (different (colours ++ more))
different-le colours [] = omega (arith, ap (λ all. length (different all)) (append-nil colours))
different-le colours (colour ∷ more) =
    let here = with_colour-le (different colours) colour in
    let all = different-le (colours ++ colour ∷ []) more in
    omega (arith, here, all, ap length (different-push colours colour), ap (λ cs. length (different cs)) (append_assoc colours (colour ∷ []) more))

-- ---- one colour

-- the names of colours and a number, after a colour was numbered
pub record NumbersColour (names : List (List ℕ)) (colour : List ℕ) (state : List (List ℕ) × ℕ) : Type 0 where
  pub whole : state.0 ≡ with_colour names colour
  pub named : get_or ([] ∷ state.0) state.1 [] ≡ colour
  pub below : state.1 < length ([] ∷ state.0)
  pub room : length names ≤ 10000 → length state.0 ≤ 10000

found_read : (line : ℕ) (names : List (List ℕ)) (colour : List ℕ) (found : Option ℕ) (state : List (List ℕ) × ℕ) → item_named names colour ≡ found → (length colour == 0) ≡ false → colour_found line names colour found ≡ Ok state → NumbersColour names colour state
found_read line names colour (Some number) state is some h =
    let same : (names, number + 1) ≡ state = cc in
    let at = named_at names colour number is in
    let among : is_among names colour ≡ true = sym (is_some-named names colour) ∙ ap is_some is in
    let next : suc number ≡ number + 1 = sym (add-one number) in
    record {
      whole = rw (← same, some, among) refl;
      named = rw (← same, ← next) at.1;
      below = rw (← same) (omega (arith, at.0));
      room = λ r. rw (← same) r;
    }
found_read line names colour None state is some h =
    let two = after_ok ((nat_lt 10000 (length names + 1), faults.TooManyColours line) ∷ []) (names ++ colour ∷ [], length names + 1) state h in
    let fresh : is_among names colour ≡ false = sym (is_some-named names colour) ∙ ap is_some is in
    let next : suc (length names) ≡ length names + 1 = sym (add-one (length names)) in
    record {
      whole = rw (← two.0, some, fresh) refl;
      named = rw (← two.0, ← next) (get_or_push names colour [] (length names) refl);
      below = rw (← two.0) (omega (arith, length-append names (colour ∷ [])));
      room = λ r. rw (← two.0) (omega (arith, length-append names (colour ∷ []), ltb-false 10000 (length names + 1) two.1.0));
    }

no_bytes : (colour : List ℕ) → (length colour == 0) ≡ true → colour ≡ []
no_bytes colour empty = nil_from_length colour (eqb-true (length colour) 0 empty)

pub colour_read : (line : ℕ) (names : List (List ℕ)) (colour : List ℕ) (state : List (List ℕ) × ℕ) → colour_at line names colour ≡ Ok state → NumbersColour names colour state
unfolding colour_at
colour_read line names colour state h =
    (elim (length colour == 0) as (λ b. (length colour == 0) ≡ b → cond b (Ok (names, 0)) (colour_found line names colour (item_named names colour)) ≡ Ok state → NumbersColour names colour state) [
      | true ↦ λ empty e.
          let same : (names, 0) ≡ state = cc in
          record {
            whole = rw (← same, empty) refl;
            named = rw (← same) (sym (no_bytes colour empty));
            below = rw (← same) (omega arith);
            room = λ r. rw (← same) r;
          }
      | false ↦ λ some e. found_read line names colour (item_named names colour) state refl some e
    ]) refl h

-- a colour that can't be numbered is one too many
found_fails : (line : ℕ) (names : List (List ℕ)) (colour : List ℕ) (found : Option ℕ) (fault : ReadFault) → item_named names colour ≡ found → (length colour == 0) ≡ false → colour_found line names colour found ≡ Err fault → (fault ≡ faults.TooManyColours line) × (10000 < length (with_colour names colour))
found_fails line names colour (Some number) fault is some h = absurd (cc)
found_fails line names colour None fault is some h =
    let fresh : is_among names colour ≡ false = sym (is_some-named names colour) ∙ ap is_some is in
    (elim (nat_lt 10000 (length names + 1)) as (λ b. nat_lt 10000 (length names + 1) ≡ b → cond {A = Result (List (List ℕ) × ℕ) ReadFault} b (Err (faults.TooManyColours line)) (Ok (names ++ colour ∷ [], length names + 1)) ≡ Err fault → (fault ≡ faults.TooManyColours line) × (10000 < length (with_colour names colour))) [
      | true ↦ λ many e. let same : faults.TooManyColours line ≡ fault = cc in (sym same, rw (some, fresh) (omega (arith, length-append names (colour ∷ []), ltb-true 10000 (length names + 1) many)))
      | false ↦ λ few e. absurd (cc)
    ]) refl h

colour_fails : (line : ℕ) (names : List (List ℕ)) (colour : List ℕ) (fault : ReadFault) → colour_at line names colour ≡ Err fault → (fault ≡ faults.TooManyColours line) × (10000 < length (with_colour names colour))
unfolding colour_at
colour_fails line names colour fault h =
    (elim (length colour == 0) as (λ b. (length colour == 0) ≡ b → cond b (Ok (names, 0)) (colour_found line names colour (item_named names colour)) ≡ Err fault → (fault ≡ faults.TooManyColours line) × (10000 < length (with_colour names colour))) [
      | true ↦ λ empty e. absurd (cc)
      | false ↦ λ some e. found_fails line names colour (item_named names colour) fault refl some e
    ]) refl h

-- ---- the colours of an option

-- a colour's name may be one
abbrev pub is_lawful_colour : List ℕ → Bool
is_lawful_colour colour = length colour == 0 || is_name colour

-- what a further colour adds to the names
pub record GrowsBy (names grown : List (List ℕ)) : Type 0 where
  pub more : List (List ℕ)
  pub whole : grown ≡ names ++ more

colour_grows : (names : List (List ℕ)) (colour : List ℕ) → GrowsBy names (with_colour names colour)
colour_grows names colour =
    elim (length colour == 0) as (λ b. GrowsBy names (cond b names (with_new names colour))) [
      | true ↦ record { more = []; whole = sym (append-nil names) }
      | false ↦
          elim (is_among names colour) as (λ b. GrowsBy names (cond b names (names ++ colour ∷ []))) [
            | true ↦ record { more = []; whole = sym (append-nil names) }
            | false ↦ record { more = colour ∷ []; whole = refl }
          ]
    ]

colour_differs : (names : List (List ℕ)) (colour : List ℕ) → names_differ names ≡ true → names_differ (with_colour names colour) ≡ true
colour_differs names colour differ =
    elim (length colour == 0) as (λ b. names_differ (cond b names (with_new names colour)) ≡ true) [
      | true ↦ differ
      | false ↦
          (elim (is_among names colour) as (λ b. is_among names colour ≡ b → names_differ (cond b names (names ++ colour ∷ [])) ≡ true) [
            | true ↦ λ among. differ
            | false ↦ λ fresh. names_differ-push names colour differ fresh
          ]) refl
    ]

colour_lawful : (names : List (List ℕ)) (colour : List ℕ) → is_lawful_colour colour ≡ true → list_all is_name names ≡ true → list_all is_name (with_colour names colour) ≡ true
colour_lawful names colour lawful all =
    (elim (length colour == 0) as (λ b. (b || is_name colour) ≡ true → list_all is_name (cond b names (with_new names colour)) ≡ true) [
      | true ↦ λ l. all
      | false ↦ λ l.
          elim (is_among names colour) as (λ b. list_all is_name (cond b names (names ++ colour ∷ [])) ≡ true) [
            | true ↦ all
            | false ↦ list_all-append is_name names (colour ∷ []) ∙ and_from (list_all is_name names) (is_name colour && true) all (and_from (is_name colour) true l refl)
          ]
    ]) lawful

-- numbers keep their names where names are added
pub names_of-more : (names more : List (List ℕ)) (numbers : List ℕ) → are_below (length names) numbers ≡ true → names_of (names ++ more) numbers ≡ names_of names numbers
names_of-more names more [] below = refl
names_of-more names more (n ∷ ns) below =
    let parts = and_parts (nat_lt n (length names)) (are_below (length names) ns) below in
    rw (get_or_append_left names more [] n (ltb-true n (length names) parts.0), names_of-more names more ns parts.1) refl

pub are_below-more : (low high : ℕ) (numbers : List ℕ) → low ≤ high → are_below low numbers ≡ true → are_below high numbers ≡ true
are_below-more low high [] le below = refl
are_below-more low high (n ∷ ns) le below =
    let parts = and_parts (nat_lt n low) (are_below low ns) below in
    and_from (nat_lt n high) (are_below high ns) (lt-ltb n high (omega (arith, ltb-true n low parts.0))) (are_below-more low high ns le parts.1)

-- words without a colon have no colour
pub none_numbered : (line : ℕ) (names : List (List ℕ)) (numbers : List ℕ) (words : List (List ℕ)) → list_any has_colon words ≡ false → colours_from line names numbers (map colour_part words) ≡ Ok (names, numbers ++ replicate (length words) 0)
unfolding colours_from colour_at
none_numbered line names numbers [] h = ap (λ all. Ok (names, all)) (sym (append-nil numbers))
none_numbered line names numbers (word ∷ words) h =
    let parts = or_parts (has_colon word) (list_any has_colon words) h in
    rw (no_colon word parts.0).1 (none_numbered line names (numbers ++ 0 ∷ []) words parts.1 ∙ ap (λ all. Ok (names, all)) (append_assoc numbers (0 ∷ []) (replicate (length words) 0)))

-- the names and the numbers after the colours of an option
pub record NumbersColours (names : List (List ℕ)) (numbers : List ℕ) (colours : List (List ℕ)) (state : List (List ℕ) × List ℕ) : Type 0 where
  pub grows : GrowsBy names state.0
  pub named : are_below (length ([] ∷ names)) numbers ≡ true → names_of ([] ∷ state.0) state.1 ≡ names_of ([] ∷ names) numbers ++ colours
  pub below : are_below (length ([] ∷ names)) numbers ≡ true → are_below (length ([] ∷ state.0)) state.1 ≡ true
  pub seen : (before : List (List ℕ)) → names ≡ different before → state.0 ≡ different (before ++ colours)
  pub differ : names_differ names ≡ true → names_differ state.0 ≡ true
  pub lawful : list_all is_lawful_colour colours ≡ true → list_all is_name names ≡ true → list_all is_name state.0 ≡ true
  pub room : length names ≤ 10000 → length state.0 ≤ 10000

colours_more : (names : List (List ℕ)) (numbers : List ℕ) (colour : List ℕ) (colours : List (List ℕ)) (one : List (List ℕ) × ℕ) (state : List (List ℕ) × List ℕ) → NumbersColour names colour one → NumbersColours one.0 (numbers ++ one.1 ∷ []) colours state → NumbersColours names numbers (colour ∷ colours) state
colours_more names numbers colour colours one state first rest =
    let grows = colour_grows names colour in
    let grown : one.0 ≡ names ++ grows.more = first.whole ∙ grows.whole in
    let named_one : are_below (length ([] ∷ names)) numbers ≡ true → names_of ([] ∷ one.0) (numbers ++ one.1 ∷ []) ≡ names_of ([] ∷ names) numbers ++ colour ∷ [] =
    λ below.
    map-append (λ n. get_or ([] ∷ one.0) n []) numbers (one.1 ∷ [])
    ∙ ap (λ front. front ++ get_or ([] ∷ one.0) one.1 [] ∷ []) (ap (λ ns. names_of ([] ∷ ns) numbers) grown ∙ names_of-more ([] ∷ names) grows.more numbers below)
    ∙ ap (λ last. names_of ([] ∷ names) numbers ++ last ∷ []) first.named in
    let below_one : are_below (length ([] ∷ names)) numbers ≡ true → are_below (length ([] ∷ one.0)) (numbers ++ one.1 ∷ []) ≡ true =
    λ below.
    let more : are_below (length ([] ∷ one.0)) numbers ≡ true = are_below-more (length ([] ∷ names)) (length ([] ∷ one.0)) numbers (omega (arith, ap length grown, length-append names grows.more)) below in
    list_all-append (λ n. nat_lt n (length ([] ∷ one.0))) numbers (one.1 ∷ [])
    ∙ and_from (are_below (length ([] ∷ one.0)) numbers) (nat_lt one.1 (length ([] ∷ one.0)) && true) more (and_from (nat_lt one.1 (length ([] ∷ one.0))) true (lt-ltb one.1 (length ([] ∷ one.0)) first.below) refl) in
    record {
      grows = record { more = grows.more ++ rest.grows.more; whole = rest.grows.whole ∙ ap (λ ns. ns ++ rest.grows.more) grown ∙ append_assoc names grows.more rest.grows.more };
      named = λ below. rest.named (below_one below) ∙ ap (λ front. front ++ colours) (named_one below) ∙ append_assoc (names_of ([] ∷ names) numbers) (colour ∷ []) colours;
      below = λ below. rest.below (below_one below);
      seen = λ before is.
          rest.seen (before ++ colour ∷ []) (first.whole ∙ ap (λ ns. with_colour ns colour) is ∙ sym (different-push before colour)) ∙ ap different (append_assoc before (colour ∷ []) colours);
      differ = λ differ. rest.differ (rw first.whole (colour_differs names colour differ));
      lawful = λ each all.
          let parts = and_parts (is_lawful_colour colour) (list_all is_lawful_colour colours) each in
          rest.lawful parts.1 (rw first.whole (colour_lawful names colour parts.0 all));
      room = λ r. rest.room (first.room r);
    }

pub colours_read : (line : ℕ) (names : List (List ℕ)) (numbers : List ℕ) (colours : List (List ℕ)) (state : List (List ℕ) × List ℕ) → colours_from line names numbers colours ≡ Ok state → NumbersColours names numbers colours state
unfolding colours_from
colours_read line names numbers [] state h =
    let same : (names, numbers) ≡ state = cc in
    rw (← same) (record {
      grows = record { more = []; whole = sym (append-nil names) };
      named = λ below. sym (append-nil (names_of ([] ∷ names) numbers));
      below = λ below. below;
      seen = λ before is. is ∙ ap different (sym (append-nil before));
      differ = λ differ. differ;
      lawful = λ each all. all;
      room = λ r. r;
    })
colours_read line names numbers (colour ∷ colours) state h =
    (elim (colour_at line names colour) as (λ r. colour_at line names colour ≡ r → (r >>= (λ one. colours_from line one.0 (numbers ++ one.1 ∷ []) colours)) ≡ Ok state → NumbersColours names numbers (colour ∷ colours) state) [
      | Ok one ↦ λ e g. colours_more names numbers colour colours one state (colour_read line names colour one e) (colours_read line one.0 (numbers ++ one.1 ∷ []) colours state g)
      | Err fault ↦ λ e g. absurd (cc)
    ]) refl h

-- the colours of an option can be numbered where they are not too many
pub colours_fault : (line : ℕ) (names : List (List ℕ)) (numbers : List ℕ) (before colours : List (List ℕ)) → names ≡ different before → length names ≤ 10000 → fault_of (colours_from line names numbers colours) ≡ first_of ((nat_lt 10000 (length (different (before ++ colours))), faults.TooManyColours line) ∷ [])
unfolding colours_from
colours_fault line names numbers before [] is few =
    let same : length (different (before ++ [])) ≡ length names = ap (λ cs. length (different cs)) (append-nil before) ∙ ap length (sym is) in
    rw (le-ltb 10000 (length (different (before ++ []))) (omega (arith, same, few))) refl
colours_fault line names numbers before (colour ∷ colours) is few =
    let whole : different (before ++ colour ∷ []) ≡ with_colour names colour = different-push before colour ∙ ap (λ ns. with_colour ns colour) (sym is) in
    (elim (colour_at line names colour) as (λ r. colour_at line names colour ≡ r → fault_of (r >>= (λ one. colours_from line one.0 (numbers ++ one.1 ∷ []) colours)) ≡ first_of ((nat_lt 10000 (length (different (before ++ colour ∷ colours))), faults.TooManyColours line) ∷ [])) [
      | Ok one ↦ λ e.
          let first = colour_read line names colour one e in
          colours_fault line one.0 (numbers ++ one.1 ∷ []) (before ++ colour ∷ []) colours (first.whole ∙ sym whole) (first.room few)
          ∙ ap (λ cs. first_of ((nat_lt 10000 (length (different cs)), faults.TooManyColours line) ∷ [])) (append_assoc before (colour ∷ []) colours)
      | Err fault ↦ λ e.
          let fails = colour_fails line names colour fault e in
          let many : 10000 < length (different (before ++ colour ∷ colours)) = omega (arith, fails.1, ap length whole, different-le (before ++ colour ∷ []) colours, ap (λ cs. length (different cs)) (append_assoc before (colour ∷ []) colours)) in
          rw (lt-ltb 10000 (length (different (before ++ colour ∷ colours))) many) (ap Some fails.0)
    ]) refl

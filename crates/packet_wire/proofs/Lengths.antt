-- How many bytes the parts of a packet have.
use Rattle.std.proofs.Common.{◌≡◌, ℕ, ◌*◌, ◌<◌, ◌≤◌, true, ◌&&◌, not, List, [], ◌∷◌, ◌++◌, length, None, refl, arith}
use Rattle.std.specs.Prelude.{nat_lt}
use Rattle.std.specs.List.{list_all}
use Rattle.std.proofs.lemmas.Bool.{ltb-true}
use Rattle.std.proofs.lemmas.List.{length-append}
use Rattle.byteorder.specs.Numbers.{length-bytes_high_first}
use Rattle.spawn_frame.specs.declared.child_result.ChildResult.{ChildResult}
use Rattle.spawn_frame.specs.declared.child_result.ChildResult.TheVariants.{Cover, Empty}
use Rattle.spawn_frame.specs.declared.siblings.Sibling.{Sibling}
use Rattle.spawn_frame.specs.declared.site.Site.{Site}
use Rattle.packet_wire.specs.Kinds.{is_routed, kind_number, kind_of, kind_version}
use Rattle.packet_wire.specs.Spelling.{body_text, cause_number, child_text, give_many_text, header_text, incarnations_text, number, numbers, options_text, result_text, sibling_text, siblings_text, site_text, spelling, start_text}
use Rattle.packet_wire.specs.WellFormed.{are_incarnations, are_options, are_siblings, is_body, is_child, is_counted, is_node_count, is_option, is_option_count, is_parent, is_result, is_sibling_count, is_site, is_well_formed}
use Rattle.packet_wire.specs.declared.kind.Kind.{Kind}
use Rattle.packet_wire.specs.declared.packet.Body.{Body}
use Rattle.packet_wire.specs.declared.packet.Body.TheVariants as bodies
use Rattle.packet_wire.specs.declared.packet.Packet.{Packet}
use Rattle.packet_wire.proofs.Fields.{and_both}

length-number : (width n : ℕ) → length (number width n) ≡ width
unfolding number
length-number width n = length-bytes_high_first width n

length-numbers2 : (ns : List ℕ) → length (numbers 2 ns) ≡ 2 * length ns
length-numbers2 [] = refl
length-numbers2 (n ∷ ns) = omega (arith, length-append (number 2 n) (numbers 2 ns), length-number 2 n, length-numbers2 ns)

length-numbers4 : (ns : List ℕ) → length (numbers 4 ns) ≡ 4 * length ns
length-numbers4 [] = refl
length-numbers4 (n ∷ ns) = omega (arith, length-append (number 4 n) (numbers 4 ns), length-number 4 n, length-numbers4 ns)

length-site : (s : Site) → length (site_text s) ≡ 5
length-site s = omega (arith, length-append (number 1 s.node) (number 4 s.incarnation), length-number 1 s.node, length-number 4 s.incarnation)

length-start : (kind : Kind) → length (start_text kind) ≡ 4
length-start kind =
    omega (arith, length-append (number 2 17230) (number 1 (kind_version kind) ++ number 1 (kind_number kind)), length-append (number 1 (kind_version kind)) (number 1 (kind_number kind)), length-number 2 17230, length-number 1 (kind_version kind), length-number 1 (kind_number kind))

length-header : (kind : Kind) (from to : Site) → length (header_text kind from to) ≡ 14
length-header kind from to =
    omega (arith, length-append (start_text kind) (site_text from ++ site_text to), length-append (site_text from) (site_text to), length-start kind, length-site from, length-site to)

length-sibling : (s : Sibling) → length (sibling_text s) ≡ 10
length-sibling s =
    omega (arith, length-append (number 4 s.serial) (number 4 s.attempt ++ number 2 s.option), length-append (number 4 s.attempt) (number 2 s.option), length-number 4 s.serial, length-number 4 s.attempt, length-number 2 s.option)

length-siblings : (ss : List Sibling) → length (siblings_text ss) ≡ 10 * length ss
length-siblings [] = refl
length-siblings (s ∷ ss) = omega (arith, length-append (sibling_text s) (siblings_text ss), length-sibling s, length-siblings ss)

parent-short : (prefix : List ℕ) → is_parent prefix ≡ true → length (options_text prefix) ≤ 2000
parent-short prefix ok =
    let lt : length prefix < 1000 = ltb-true _ _ (and_both (nat_lt (length prefix) 1000) (list_all is_option prefix) ok).0 in
    omega (arith, length-append (number 2 (length prefix)) (numbers 2 prefix), length-number 2 (length prefix), length-numbers2 prefix)

many-short : (prefix : List ℕ) (ss : List Sibling) → is_body (bodies.GiveMany prefix ss) ≡ true → length (give_many_text prefix ss) ≤ 2081
many-short prefix ss ok =
    let count = and_both (is_sibling_count (length ss)) (is_parent prefix && are_siblings None ss) ok in
    let lt : length ss < 9 = ltb-true _ _ (and_both (nat_lt 1 (length ss)) (nat_lt (length ss) 9) count.0).1 in
    let parent = (and_both (is_parent prefix) (are_siblings None ss) count.1).0 in
    omega (arith, length-append (number 1 (length ss)) (options_text prefix ++ siblings_text ss), length-append (options_text prefix) (siblings_text ss), length-number 1 (length ss), parent-short prefix parent, length-siblings ss)

length-child : (serial attempt : ℕ) → length (child_text serial attempt) ≡ 8
length-child serial attempt = omega (arith, length-append (number 4 serial) (number 4 attempt), length-number 4 serial, length-number 4 attempt)

options-short : (least : ℕ) (options : List ℕ) → are_options least options ≡ true → length (options_text options) ≤ 2002
options-short least options ok =
    let count = and_both (is_option_count least (length options)) (list_all is_option options) ok in
    let lt : length options < 1001 = ltb-true _ _ (and_both (not (nat_lt (length options) least)) (nat_lt (length options) 1001) count.0).1 in
    omega (arith, length-append (number 2 (length options)) (numbers 2 options), length-number 2 (length options), length-numbers2 options)

incarnations-short : (incarnations : List ℕ) → are_incarnations incarnations ≡ true → length (incarnations_text incarnations) ≤ 65
incarnations-short incarnations ok =
    let count = and_both (is_node_count (length incarnations)) (list_all is_counted incarnations) ok in
    let lt : length incarnations < 17 = ltb-true _ _ (and_both (nat_lt 0 (length incarnations)) (nat_lt (length incarnations) 17) count.0).1 in
    omega (arith, length-append (number 1 (length incarnations)) (numbers 4 incarnations), length-number 1 (length incarnations), length-numbers4 incarnations)

result-short : (result : ChildResult) → is_result result ≡ true → length (result_text result) ≤ 2003
result-short Empty ok = omega (arith, length-number 1 0)
result-short (Cover options) ok = omega (arith, length-append (number 1 1) (options_text options), length-number 1 1, options-short 1 options ok)

told-short : (serial attempt : ℕ) (result : ChildResult) → (is_child serial attempt && is_result result) ≡ true → length (child_text serial attempt ++ result_text result) ≤ 2011
told-short serial attempt result ok =
    let both = and_both (is_child serial attempt) (is_result result) ok in
    omega (arith, length-append (child_text serial attempt) (result_text result), length-child serial attempt, result-short result both.1)

body-short : (b : Body) → is_body b ≡ true → length (body_text b) ≤ 2081
body-short bodies.Hello ok = omega arith
body-short (bodies.Members incarnations) ok = omega (arith, incarnations-short incarnations ok)
body-short bodies.Steal ok = omega arith
body-short (bodies.Give serial attempt prefix) ok =
    let both = and_both (is_child serial attempt) (are_options 0 prefix) ok in
    omega (arith, length-append (child_text serial attempt) (options_text prefix), length-child serial attempt, options-short 0 prefix both.1)
body-short (bodies.GiveMany prefix siblings) ok = many-short prefix siblings ok
body-short bodies.NoWork ok = omega arith
body-short (bodies.Return serial attempt result) ok = omega (arith, told-short serial attempt result ok)
body-short (bodies.Accept serial attempt result) ok = omega (arith, told-short serial attempt result ok)
body-short (bodies.Refuse serial attempt cause) ok = omega (arith, length-append (child_text serial attempt) (number 1 (cause_number cause)), length-child serial attempt, length-number 1 (cause_number cause))
body-short (bodies.Abort serial attempt) ok = omega (arith, length-child serial attempt)
body-short bodies.Over ok = omega arith

pub spelling-short : (p : Packet) → is_well_formed p ≡ true → length (spelling p) ≤ 2095
spelling-short p ok =
    let a = and_both (is_site p.from) _ ok in
    let b = and_both (is_site p.to) _ a.1 in
    let c = and_both (is_routed (kind_of p.body) p.from p.to) (is_body p.body) b.1 in
    omega (arith, length-append (header_text (kind_of p.body) p.from p.to) (body_text p.body), length-header (kind_of p.body) p.from p.to, body-short p.body c.1)

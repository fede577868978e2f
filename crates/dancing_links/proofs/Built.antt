-- Links as they are built, in which nothing is chosen.
use Rattle.std.proofs.Common.{◌≡◌, ℕ, ◌-◌, ◌<◌, ◌≤◌, replicate, List, [], length, refl, arith, sym, ap, ◌∙◌, inl, inr, subst}
use Rattle.std.proofs.lemmas.Bool.{cases_lt}
use Rattle.cover_problem.specs.Problem.{Problem, IsProblem}
use Rattle.dancing_links.specs.declared.link.Link.{Link}
use Rattle.dancing_links.specs.Building.{IsBuilt}
use Rattle.dancing_links.specs.Choices.{IsLinks, commits_of}
use Rattle.dancing_links.specs.Columns.{Columns, IsLinked, IsNext, IsTable}
use Rattle.dancing_links.specs.Keys.{IsKeyed}
use Rattle.dancing_links.specs.Linking.{up_of, down_of}
use Rattle.dancing_links.specs.Table.{table}
use Rattle.dancing_links.proofs.Ranges.{table_of}
use Rattle.dancing_links.proofs.Unique.{two_columns}

-- they lead the right way
pub built_linked : (c : Columns) (m : List Link) → IsTable c → IsBuilt c m → IsLinked c m
built_linked c m t b = (
  b.spelled.count,
  λ k inside. record {
    up_in = elim (cases_lt k c.heads) [
      | inl low ↦ omega (arith, b.heads_up k low, inside)
      | inr high ↦ let u = before k high inside in omega (arith, u.below, inside)
    ];
    down_in = elim (cases_lt k c.tails) [
      | inl high ↦ let d = next k high in omega (arith, d.inside, b.spelled.count)
      | inr past ↦ omega (arith, b.tails_down k past, inside)
    ];
    rises = λ high. let d = next k high in (d.below, d.low);
    falls = λ high. let u = before k high inside in (u.below, u.high);
  },
)
  where
    next : (k : ℕ) → k < c.tails → IsNext c [] k (down_of m k)
    next k high = elim (two_columns c k t (omega (arith, high, t.ends))) [
      | inl item ↦ b.spelled.down k high item refl
      | inr items ↦ b.items_down k high items
    ]

    before : (k : ℕ) → c.heads ≤ k → k < length m → IsNext c [] (up_of m k) k
    before k high inside = elim (two_columns c k t (omega (arith, inside, b.spelled.count))) [
      | inl item ↦ b.spelled.up k high (omega (arith, inside, b.spelled.count)) item refl
      | inr items ↦ b.items_up k high (omega (arith, inside, b.spelled.count)) items
    ]

-- nothing is chosen in links as they are built
pub links_built : (p : Problem) (c : Columns) (os es : List ℕ) (m : List Link) (keys : List ℕ) (room : ℕ) → IsProblem p → c ≡ table p → p.primary ≤ room → os ≡ [] → es ≡ [] → IsBuilt c m → IsKeyed c [] keys → IsLinks p c os es m keys room
links_built p c os es m keys room is layout enough none no_entries built keyed =
    let P : List ℕ → Type 0 = λ chosen. IsLinks p c chosen es m keys room in
    let Q : List ℕ → Type 0 = λ entries. IsLinks p c [] entries m keys room in
    subst P (sym none) (subst Q (sym no_entries) (record {
      is_problem = is;
      layout = layout;
      enough = enough;
      prefix = refl;
      linked = built_linked c m (table_of p c is layout) built;
      each_node = λ n k inside. absurd (omega (arith, inside));
      options = refl;
      fresh = tt;
      history = record { before = m; built = built; links_are = refl; keyed = keyed };
    }))

-- and no item has a colour
pub commits_built : (c : Columns) (es commits : List ℕ) → es ≡ [] → commits ≡ replicate (c.heads - 1) 0 → commits ≡ commits_of c es
commits_built c es commits none e = e ∙ ap (commits_of c) (sym none)

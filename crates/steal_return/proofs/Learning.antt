-- The incarnations that are known once some are learnt.
use Rattle.std.proofs.Common.{◌≡◌, ◌≢◌, ℕ, zero, suc, ◌+◌, ◌-◌, ◌<◌, ◌≤◌, max, Bool, true, false, cond, ◌==◌, nat_lt, List, [], ◌∷◌, length, get_or, slice_set, refl, sym, ap, ◌∙◌, arith}
use Rattle.std.proofs.lemmas.Bool.{eq-eqb, ne_eqb, le-ltb}
use Rattle.std.proofs.lemmas.List.{get_or_past}
use Rattle.spawn_frame.specs.declared.site.Site.{Site}
use Rattle.steal_return.specs.Members.{known_after, learnt, now_known, raised}
use Rattle.steal_return.specs.Steals.{is_older}
use Rattle.steal_return.specs.declared.news.News.{News}
use Rattle.steal_return.specs.declared.news.News.TheVariants.{Hello, Members}

max_zero : (n : ℕ) → max n 0 ≡ n
max_zero n = omega arith

learnt_at : (self node : ℕ) (ks ms : List ℕ) (j : ℕ) → j < length ks
    → get_or (learnt self node ks ms) j 0 ≡ cond (node + j == self) (get_or ks j 0) (max (get_or ks j 0) (get_or ms j 0))
learnt_at self node [] ms j h = absurd (omega (arith, h))
learnt_at self node (k ∷ ks) [] j h = either (node + j == self)
  where
    either : (b : Bool) → get_or (k ∷ ks) j 0 ≡ cond b (get_or (k ∷ ks) j 0) (max (get_or (k ∷ ks) j 0) 0)
    either true = refl
    either false = sym (max_zero (get_or (k ∷ ks) j 0))
learnt_at self node (k ∷ ks) (m ∷ ms) zero h = ap (λ n. cond (n == self) k (max k m)) (let e : node ≡ node + 0 = omega arith in e)
learnt_at self node (k ∷ ks) (m ∷ ms) (suc j) h =
    learnt_at self (suc node) ks ms j (omega (arith, h))
    ∙ ap (λ n. cond (n == self) (get_or ks j 0) (max (get_or ks j 0) (get_or ms j 0))) (let e : suc node + j ≡ node + suc j = omega arith in e)

known_at : (self : ℕ) (known ms : List ℕ) (j : ℕ) → suc j < length known
    → get_or (now_known self known ms) (suc j) 0 ≡ cond (1 + j == self) (get_or known (suc j) 0) (max (get_or known (suc j) 0) (get_or ms j 0))
known_at self [] ms j h = absurd (omega (arith, h))
known_at self (k ∷ ks) ms j h = learnt_at self 1 ks ms j (omega (arith, h))

-- the registry's stays
pub known_zero : (self : ℕ) (known ms : List ℕ) (node : ℕ) → node < length known → node ≡ 0 → get_or known node 0 ≡ get_or (now_known self known ms) node 0
known_zero self known ms zero h e = refl
known_zero self known ms (suc j) h e = absurd (omega (arith, e))

-- the own node's stays
pub known_own : (self : ℕ) (known ms : List ℕ) (node : ℕ) → node < length known → node ≡ self → get_or known node 0 ≡ get_or (now_known self known ms) node 0
known_own self known ms zero h e = refl
known_own self known ms (suc j) h e =
    sym (known_at self known ms j h ∙ ap (λ b. cond b (get_or known (suc j) 0) (max (get_or known (suc j) 0) (get_or ms j 0))) (eq-eqb (1 + j) self (let f : 1 + j ≡ self = omega (arith, e) in f)))

pub known_other : (self : ℕ) (known ms : List ℕ) (node : ℕ) → node < length known → node ≢ 0 → node ≢ self
    → max (get_or known node 0) (get_or ms (node - 1) 0) ≡ get_or (now_known self known ms) node 0
known_other self known ms zero h n e = absurd (n refl)
known_other self known ms (suc j) h n e =
    ap (λ i. max (get_or known (suc j) 0) (get_or ms i 0)) (let f : suc j - 1 ≡ j = omega arith in f)
    ∙ sym (known_at self known ms j h ∙ ap (λ b. cond b (get_or known (suc j) 0) (max (get_or known (suc j) 0) (get_or ms j 0))) (ne_eqb (1 + j) self (λ f. e (let g : suc j ≡ self = omega (arith, f) in g))))

-- a node of which nothing is told
pub known_untold : (self : ℕ) (known ms : List ℕ) (node : ℕ) → node < length known → node ≢ 0 → node ≢ self → length ms ≤ node - 1
    → get_or known node 0 ≡ get_or (now_known self known ms) node 0
known_untold self known ms node h n e past =
    sym (max_zero (get_or known node 0)) ∙ ap (λ m. max (get_or known node 0) m) (sym (get_or_past ms (node - 1) 0 past)) ∙ known_other self known ms node h n e

learnt_length : (self node : ℕ) (ks ms : List ℕ) → length (learnt self node ks ms) ≡ length ks
learnt_length self node [] ms = refl
learnt_length self node (k ∷ ks) [] = refl
learnt_length self node (k ∷ ks) (m ∷ ms) = ap suc (learnt_length self (suc node) ks ms)

pub known_length : (self : ℕ) (known ms : List ℕ) → 0 < length known → length (now_known self known ms) ≡ length known
known_length self [] ms h = absurd (omega (arith, h))
known_length self (k ∷ ks) ms h = ap suc (learnt_length self 1 ks ms)

-- of a node that there is not, no later incarnation is known
pub no_such_node : (known : List ℕ) (site : Site) → length known ≤ site.node → is_older known site ≡ false
no_such_node known site past =
    ap (λ n. nat_lt site.incarnation n) (get_or_past known site.node 0 past) ∙ le-ltb site.incarnation 0 (omega arith)

-- the greater number is written at the node's place
pub raised_is : (known : List ℕ) (node incarnation before : ℕ) → node < length known → before ≡ get_or known node before
    → slice_set known node (max before incarnation) ≡ raised known node incarnation
raised_is [] node incarnation before h e = absurd (omega (arith, h))
raised_is (k ∷ ks) zero incarnation before h e = ap (λ n. max n incarnation ∷ ks) e
raised_is (k ∷ ks) (suc node) incarnation before h e = ap (λ l. k ∷ l) (raised_is ks node incarnation before (omega (arith, h)) e)

pub raised_length : (known : List ℕ) (node incarnation : ℕ) → length (raised known node incarnation) ≡ length known
raised_length [] node incarnation = refl
raised_length (k ∷ ks) zero incarnation = refl
raised_length (k ∷ ks) (suc node) incarnation = ap suc (raised_length ks node incarnation)

pub raised_at : (known : List ℕ) (node incarnation other : ℕ) → other < length known → other ≡ node
    → max (get_or known other 0) incarnation ≡ get_or (raised known node incarnation) other 0
raised_at [] node incarnation other h e = absurd (omega (arith, h))
raised_at (k ∷ ks) zero incarnation zero h e = refl
raised_at (k ∷ ks) zero incarnation (suc other) h e = absurd (omega (arith, e))
raised_at (k ∷ ks) (suc node) incarnation zero h e = absurd (omega (arith, e))
raised_at (k ∷ ks) (suc node) incarnation (suc other) h e = raised_at ks node incarnation other (omega (arith, h)) (omega (arith, e))

pub raised_other : (known : List ℕ) (node incarnation other : ℕ) → other ≢ node → get_or (raised known node incarnation) other 0 ≡ get_or known other 0
raised_other [] node incarnation other h = refl
raised_other (k ∷ ks) zero incarnation zero h = absurd (h refl)
raised_other (k ∷ ks) zero incarnation (suc other) h = refl
raised_other (k ∷ ks) (suc node) incarnation zero h = refl
raised_other (k ∷ ks) (suc node) incarnation (suc other) h = raised_other ks node incarnation other (λ e. h (ap suc e))

-- as many incarnations are known then
pub after_length : (news : News) (known : List ℕ) → 0 < length known → length (known_after news known) ≡ length known
after_length (Members self incarnations) known h = known_length self known incarnations.now h
after_length (Hello site) known h = raised_length known site.node site.incarnation

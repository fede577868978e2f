-- Ready children that are given one after the other.
use Rattle.std.proofs.Common.{◌≡◌, ℕ, zero, suc, ◌+◌, ◌<◌, ◌≤◌, true, false, nat_lt, List, [], ◌∷◌, length, drop, map, get_or, Option, Some, None, slice_get, refl, sym, ap, subst, ◌∙◌, arith}
use Rattle.std.specs.List.{AllByRecursion}
use Rattle.std.proofs.lemmas.List.{drop_all, drop_more, length-map}
use Rattle.std.proofs.lemmas.Bool.{and_parts, ltb-true}
use Rattle.std.proofs.lemmas.Option.{same_Some}
use Rattle.spawn_frame.specs.Gifts.{rise_from, serials_of}
use Rattle.spawn_frame.specs.Tables.{attempt_in, prefix_in}
use Rattle.spawn_frame.specs.Units.{Entry, change_at, with_status}
use Rattle.spawn_frame.specs.declared.site.Site.{Site}
use Rattle.spawn_frame.specs.declared.status.Status.{Status}
use Rattle.spawn_frame.specs.declared.status.Status.TheVariants.{Out}
use Rattle.spawn_frame.specs.declared.unit.Unit.{Unit as WorkUnit}
use Rattle.steal_return.specs.Ledger.{Ledger, ledger_own}
use Rattle.steal_return.specs.Shares.{MayGo, MayGoTogether}
use Rattle.steal_return.specs.Steals.{GivesChildren, GivesEach, gift_at, is_older}

pub serials_at : (own : List Entry) (ns : List ℕ) → serials_of (map (gift_at own) ns) ≡ ns
serials_at own [] = refl
serials_at own (n ∷ ns) = ap (λ l. n ∷ l) (serials_at own ns)

-- ---- what stays of the others

kept : {A : Type 0} (g : Option Entry → A) (s : Status) → ((c : Entry) → g (Some (with_status s c)) ≡ g (Some c)) → (own : List Entry) (x k : ℕ) → g (slice_get (change_at (with_status s) own x) k) ≡ g (slice_get own k)
kept g s same [] x k = refl
kept g s same (c ∷ cs) zero zero = same c
kept g s same (c ∷ cs) zero (suc k) = refl
kept g s same (c ∷ cs) (suc x) zero = refl
kept g s same (c ∷ cs) (suc x) (suc k) = kept g s same cs x k

same_gift : (s : Status) (own : List Entry) (x k : ℕ) → gift_at (change_at (with_status s) own x) k ≡ gift_at own k
same_gift s own x k =
    λ i. record { serial = k; attempt = kept attempt_in s (λ c. refl) own x k i; prefix = kept prefix_in s (λ c. refl) own x k i }

elsewhere : (s : Status) (own : List Entry) (x k : ℕ) → x < k → slice_get (change_at (with_status s) own x) k ≡ slice_get own k
elsewhere s [] x k lt = refl
elsewhere s (c ∷ cs) zero zero lt = absurd (omega (arith, lt))
elsewhere s (c ∷ cs) zero (suc k) lt = refl
elsewhere s (c ∷ cs) (suc x) zero lt = refl
elsewhere s (c ∷ cs) (suc x) (suc k) lt = elsewhere s cs x k (omega (arith, lt))

later_go : (parent : Option WorkUnit) (s : Status) (own : List Entry) (x last : ℕ) (ns : List ℕ) → x ≤ last → rise_from (Some last) ns ≡ true → AllByRecursion (MayGo parent own) ns
    → AllByRecursion (MayGo parent (change_at (with_status s) own x)) ns
later_go parent s own x last [] le r h = tt
later_go parent s own x last (n ∷ ns) le r h =
    let p = and_parts (nat_lt last n) (rise_from (Some n) ns) r in
    let lt = ltb-true last n p.0 in
    ((h.0.0, elsewhere s own x n (omega (arith, lt, le)) ∙ h.0.1, h.0.2, h.0.3), later_go parent s own x n ns (omega (arith, lt, le)) p.1 h.1)

rise_on : (x : ℕ) (ns : List ℕ) → rise_from (Some x) ns ≡ true → rise_from None ns ≡ true
rise_on x [] r = refl
rise_on x (n ∷ ns) r = (and_parts (nat_lt x n) (rise_from (Some n) ns) r).1

-- ---- one after the other

-- Of the children those before place i are given, and the others may be.
pub record Giving (old now : Ledger) (thief : Site) (parent : Option WorkUnit) (serials : List ℕ) (i : ℕ) : Type 0 where
  pub not_older : is_older now.known thief ≡ false
  pub same : (k : ℕ) → gift_at now.own k ≡ gift_at old.own k
  pub left : AllByRecursion (MayGo parent now.own) (drop i serials)
  pub rising : rise_from None (drop i serials) ≡ true
  pub so_far : (new : Ledger) → GivesEach parent now thief (map (gift_at old.own) (drop i serials)) new → GivesEach parent old thief (map (gift_at old.own) serials) new

pub giving_starts : (old : Ledger) (thief : Site) (serials : List ℕ) → is_older old.known thief ≡ false → (h : MayGoTogether old.own serials) → Giving old old thief h.parent serials 0
giving_starts old thief serials not_older h = record { not_older = not_older; same = λ k. refl; left = h.each; rising = h.rising; so_far = λ new g. g }

-- the next one, where those that are left begin with it
next_one : (old now new : Ledger) (thief : Site) (parent : Option WorkUnit) (serials rest : List ℕ) (i x : ℕ) → drop i serials ≡ x ∷ rest → drop (i + 1) serials ≡ rest → Giving old now thief parent serials i
    → GivesChildren now thief (gift_at now.own x ∷ []) new → Giving old new thief parent serials (i + 1)
next_one old now new thief parent serials rest i x here more g gives =
    let child = gives.each.1 in
    let left = subst (AllByRecursion (MayGo parent now.own)) here g.left in
    let rising : rise_from (Some x) rest ≡ true = sym (ap (rise_from None) here) ∙ g.rising in
    let after : new ≡ ledger_own now (change_at (with_status (Out thief)) now.own x) = gives.each.3 ∙ child.after in
    let own : new.own ≡ change_at (with_status (Out thief)) now.own x = ap (λ l. l.own) after in
    record {
      not_older = ap (λ l. is_older l.known thief) after ∙ g.not_older;
      same = λ k. ap (λ o. gift_at o k) own ∙ same_gift (Out thief) now.own x k ∙ g.same k;
      left = subst (AllByRecursion (MayGo parent new.own)) (sym more) (subst (λ o. AllByRecursion (MayGo parent o) rest) (sym own) (later_go parent (Out thief) now.own x x rest (omega arith) rising left.1));
      rising = ap (rise_from None) more ∙ rise_on x rest rising;
      so_far = λ final each.
          g.so_far final (subst (λ l. GivesEach parent now thief (map (gift_at old.own) l) final) (sym here) (
            new,
            record {
              entry = child.entry;
              not_older = child.not_older;
              is = child.is;
              ready = child.ready;
              attempt = ap (λ t. t.attempt) (sym (g.same x)) ∙ child.attempt;
              prefix = ap (λ t. t.prefix) (sym (g.same x)) ∙ child.prefix;
              after = after;
            },
            ap (λ c. c.parent) (same_Some child.entry left.0.0 (sym child.is ∙ left.0.1)) ∙ left.0.3,
            subst (λ l. GivesEach parent new thief (map (gift_at old.own) l) final) more each,
          ));
    }

pub gives_next : (old now new : Ledger) (thief : Site) (parent : Option WorkUnit) (serials : List ℕ) (i d : ℕ) → i < length serials → Giving old now thief parent serials i
    → GivesChildren now thief (gift_at now.own (get_or serials i d) ∷ []) new → Giving old new thief parent serials (i + 1)
gives_next old now new thief parent serials i d lt g gives =
    next_one old now new thief parent serials (drop (i + 1) serials) i (get_or serials i d) (drop_more serials i d lt) refl g gives

pub next_ready : (old now : Ledger) (thief : Site) (parent : Option WorkUnit) (serials : List ℕ) (i d : ℕ) → i < length serials → Giving old now thief parent serials i → MayGo parent now.own (get_or serials i d)
next_ready old now thief parent serials i d lt g = (subst (AllByRecursion (MayGo parent now.own)) (drop_more serials i d lt) g.left).0

pub all_given : (old now : Ledger) (thief : Site) (serials : List ℕ) (i : ℕ) → (h : MayGoTogether old.own serials) → length serials ≤ i → Giving old now thief h.parent serials i
    → GivesChildren old thief (map (gift_at old.own) serials) now
all_given old now thief serials i h le g =
    let long : length (map (gift_at old.own) serials) ≡ length serials = length-map serials (gift_at old.own) in
    record {
      parent = h.parent;
      some = omega (arith, long, h.some);
      most = omega (arith, long, h.most);
      alone = λ e. long ∙ h.alone e;
      rising = ap (rise_from None) (serials_at old.own serials) ∙ h.rising;
      each = g.so_far now (subst (λ l. GivesEach h.parent now thief (map (gift_at old.own) l) now) (sym (drop_all i serials le)) refl);
    }

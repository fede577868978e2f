-- A merge of beginnings kept as one cursor for each book.
use Rattle.std.proofs.Common.{◌≡◌, ◌≢◌, ℕ, zero, suc, ◌+◌, ◌-◌, ◌<◌, ◌≤◌, false, List, [], ◌∷◌, ◌++◌, drop, length, replicate, get_or, Some, slice_get, slice_set, refl, sym, ap, ◌∙◌, subst, ⊎_elim, arith, true≢false}
use Rattle.std.proofs.lemmas.Bool.{cases_lt}
use Rattle.std.proofs.lemmas.Option.{same_Some, none-some, slice_get_read, slice_get_within}
use Rattle.node_core.specs.declared.event.Event.{Event}
use Rattle.node_core.specs.declared.event.Event.TheVariants.{Deliver, Take}
use Rattle.packet_wire.specs.declared.packet.Packet.{Packet}
use Rattle.audit.proofs.Merging.{all_at, all_from, from_put_out, in_put_out, put_out, put_out_more}
use Rattle.audit.proofs.Setting.{get_set, In, in_left, in_right, in_split, set_get, set_here, within}
use Rattle.audit.proofs.SiteOrder.{earlier_is_before}
use Rattle.audit.specs.Audits.{site_before, WasNeverSent}
use Rattle.run_book.specs.Books.{Book}
use Rattle.audit.specs.Cursors.{AreOfMerge, AreUsedUp, HasNext, IsSent, IsTurn, left_at, LeastLeft, PutOut, IsStuck, Takes}
use Rattle.run_book.specs.Entries.{Entry}
use Rattle.run_book.specs.Merges.{DeliversPutOut, follows, IsMerge, IsUsedUp, MayFollow, MergesTo, none_yet, SiteEntry, WasPutOut}
use Rattle.spawn_frame.specs.declared.site.Site.{Site}

-- ---- what the cursors leave

-- the cursors of a merge that has taken nothing
abbrev zeros : List Book → List ℕ
zeros [] = []
zeros (book ∷ books) = 0 ∷ zeros books

left_zeros : (books : List Book) → left_at (zeros books) books ≡ books
left_zeros [] = refl
left_zeros (b ∷ bs) = ap (λ xs. b ∷ xs) (left_zeros bs)

pub record LeftFrom (cs : List ℕ) (books : List Book) (k : ℕ) (b : Book) : Type 0 where
  pub book : Book
  pub cursor : ℕ
  pub is : slice_get books k ≡ Some book
  pub at : slice_get cs k ≡ Some cursor
  pub site : book.site ≡ b.site
  pub entries : drop cursor book.entries ≡ b.entries

left_from : (cs : List ℕ) (books : List Book) (k : ℕ) (b : Book) → slice_get (left_at cs books) k ≡ Some b → LeftFrom cs books k b
left_from [] books k b e = absurd (none-some b e)
left_from (c ∷ cs) [] k b e = absurd (none-some b e)
left_from (c ∷ cs) (x ∷ xs) zero b e =
    let same = same_Some _ b e in
    record { book = x; cursor = c; is = refl; at = refl; site = ap (λ y. y.site) same; entries = ap (λ y. y.entries) same }
left_from (c ∷ cs) (x ∷ xs) (suc k) b e =
    let h = left_from cs xs k b e in
    record { book = h.book; cursor = h.cursor; is = h.is; at = h.at; site = h.site; entries = h.entries }

left_to : (cs : List ℕ) (books : List Book) (k : ℕ) (book : Book) (c : ℕ) → slice_get books k ≡ Some book → slice_get cs k ≡ Some c
    → slice_get (left_at cs books) k ≡ Some (record { site = book.site; entries = drop c book.entries })
left_to [] books k book c e f = absurd (none-some c f)
left_to (d ∷ ds) [] k book c e f = absurd (none-some book e)
left_to (d ∷ ds) (x ∷ xs) zero book c e f = λ i. Some (record { site = (same_Some x book e i).site; entries = drop (same_Some d c f i) (same_Some x book e i).entries })
left_to (d ∷ ds) (x ∷ xs) (suc k) book c e f = left_to ds xs k book c e f

left_set : (cs : List ℕ) (books : List Book) (k : ℕ) (book : Book) (c : ℕ) → slice_get books k ≡ Some book
    → slice_set (left_at cs books) k (record { site = book.site; entries = drop c book.entries }) ≡ left_at (slice_set cs k c) books
left_set [] books k book c e = refl
left_set (d ∷ ds) [] k book c e = absurd (none-some book e)
left_set (d ∷ ds) (x ∷ xs) zero book c e = λ i. record { site = (sym (same_Some x book e) i).site; entries = drop c (sym (same_Some x book e) i).entries } ∷ left_at ds xs
left_set (d ∷ ds) (x ∷ xs) (suc k) book c e = ap (λ ys. record { site = x.site; entries = drop d x.entries } ∷ ys) (left_set ds xs k book c e)

drop_next : (entries : List Entry) (c : ℕ) (entry : Entry) → slice_get entries c ≡ Some entry → drop c entries ≡ entry ∷ drop (suc c) entries
drop_next [] c entry e = absurd (none-some entry e)
drop_next (x ∷ xs) zero entry e = ap (λ y. y ∷ xs) (same_Some x entry e)
drop_next (x ∷ xs) (suc c) entry e = drop_next xs c entry e

next_of_drop : (entries : List Entry) (c : ℕ) (entry : Entry) (rest : List Entry) → drop c entries ≡ entry ∷ rest → slice_get entries c ≡ Some entry
next_of_drop [] zero entry rest e = absurd (cc)
next_of_drop [] (suc c) entry rest e = absurd (cc)
next_of_drop (x ∷ xs) zero entry rest e = let h : x ≡ entry = cc in ap Some h
next_of_drop (x ∷ xs) (suc c) entry rest e = next_of_drop xs c entry rest e

drop_all : (entries : List Entry) (c : ℕ) → length entries ≤ c → drop c entries ≡ []
drop_all [] zero l = refl
drop_all [] (suc c) l = refl
drop_all (x ∷ xs) zero l = absurd (omega (arith, l))
drop_all (x ∷ xs) (suc c) l = drop_all xs c (omega (arith, l))

all_dropped : (entries : List Entry) (c : ℕ) → drop c entries ≡ [] → length entries ≤ c
all_dropped [] c e = omega arith
all_dropped (x ∷ xs) zero e = absurd (cc)
all_dropped (x ∷ xs) (suc c) e = omega (arith, all_dropped xs c e)

-- ---- the cursors of a merge

zero_at : (books : List Book) (k c : ℕ) → slice_get (zeros books) k ≡ Some c → c ≡ 0
zero_at [] k c e = absurd (none-some c e)
zero_at (b ∷ bs) zero c e = sym (same_Some 0 c e)
zero_at (b ∷ bs) (suc k) c e = zero_at bs k c e

begins : (books : List Book) → AreOfMerge books (zeros books)
begins books = record {
  merged = [];
  merges = subst (λ left. MergesTo books [] left) (sym (left_zeros books)) none_yet;
  put_out = λ packet p. absurd (omega (arith, p.before, zero_at books p.at p.cursor p.cursor_is));
  from_books = λ packet w. absurd (none-some w.earlier w.is);
  begun = λ k book c e f l. absurd (omega (arith, l, zero_at books k c f));
}

zeros_are : (books : List Book) → zeros books ≡ replicate (length books) 0
zeros_are [] = refl
zeros_are (b ∷ bs) = ap (λ cs. 0 ∷ cs) (zeros_are bs)

zeros_each : (books : List Book) → length (zeros books) ≡ length books
zeros_each [] = refl
zeros_each (b ∷ bs) = ap suc (zeros_each bs)

-- what a merge keeps true
abbrev pub Kept : List Book → List ℕ → Type 0
Kept books cs = AreOfMerge books cs × (length cs ≡ length books)

pub kept_first : (books : List Book) (cs : List ℕ) → cs ≡ replicate (length books) 0 → Kept books cs
kept_first books cs e = subst (Kept books) (zeros_are books ∙ sym e) (begins books, zeros_each books)

delivers : (books : List Book) (cs : List ℕ) (merged : List SiteEntry) → ((packet : Packet) → PutOut books cs packet → WasPutOut merged packet)
    → (e : Event) → IsSent books cs e → DeliversPutOut merged e
delivers books cs merged f (Deliver packet) h = f packet h
delivers books cs merged f Take h = tt
delivers books cs merged f _ h = tt

is_sent : (books : List Book) (cs : List ℕ) (merged : List SiteEntry) → ((packet : Packet) → WasPutOut merged packet → PutOut books cs packet)
    → (e : Event) → DeliversPutOut merged e → IsSent books cs e
is_sent books cs merged f (Deliver packet) h = f packet h
is_sent books cs merged f Take h = tt
is_sent books cs merged f _ h = tt

turn_stays : (books : List Book) (cs : List ℕ) (k c : ℕ) → slice_get cs k ≡ Some c → (site : Site) → IsTurn books cs site → IsTurn books (slice_set cs k (suc c)) site
turn_stays books cs k c at site turn i b d e f h =
    ⊎_elim
    (λ (g : (i ≡ k) × (suc c ≡ d)). turn i b c e (ap (slice_get cs) g.0 ∙ at) (h.0, h.1, omega (arith, h.2, g.1)))
    (λ (g : (i ≢ k) × (slice_get cs i ≡ Some d)). turn i b d e g.1 h)
    (set_get cs k (suc c) i d f)

takes : (books : List Book) (cs : List ℕ) → AreOfMerge books cs → (k : ℕ) (t : Takes books cs k) → AreOfMerge books (slice_set cs k (suc t.cursor))
takes books cs s k t =
    let next : SiteEntry = record { site = t.book.site; entry = t.entry } in
    let new = slice_set cs k (suc t.cursor) in
    let here : slice_get new k ≡ Some (suc t.cursor) = set_here cs k (suc t.cursor) t.cursor t.cursor_is in
    let later : List Entry = drop (suc t.cursor) t.book.entries in
    record {
      merged = s.merged ++ next ∷ [];
      merges = subst (λ left. MergesTo books (s.merged ++ next ∷ []) left) (left_set cs books k t.book (suc t.cursor) t.is)
          (follows s.merges k next later (record {
            is = left_to cs books k t.book t.cursor t.is t.cursor_is
                ∙ ap (λ es. Some (record { site = t.book.site; entries = es })) (drop_next t.book.entries t.cursor t.entry t.entry_is);
            delivers = delivers books cs s.merged s.put_out t.entry.event t.is_next.1;
            earlier = all_from (IsUsedUp t.book.site) (left_at cs books) (λ j b e n i.
                let f = left_from cs books j b e in
                let node : f.book.site.node ≡ t.book.site.node = ap (λ x. x.node) f.site ∙ n in
                let incarnation : f.book.site.incarnation < t.book.site.incarnation = subst (λ (x : Site). x.incarnation < t.book.site.incarnation) (sym f.site) i in
                ⊎_elim
                (λ (h : f.cursor < length f.book.entries). absurd (t.is_next.0 j f.book f.cursor f.is f.at (node, incarnation, h)))
                (λ (h : length f.book.entries ≤ f.cursor). sym f.entries ∙ drop_all f.book.entries f.cursor h)
                (cases_lt f.cursor (length f.book.entries)));
          }));
      put_out = λ packet p.
          let old : (place : ℕ) (c : ℕ) → slice_get cs p.at ≡ Some c → place ≡ p.place → place < c → In packet (put_out s.merged) =
          λ place c at same l. in_put_out packet s.merged (s.put_out packet (record { at = p.at; book = p.book; cursor = c; place = place; entry = p.entry; among = p.among; is = p.is; cursor_is = at; before = l; entry_is = ap (slice_get p.book.entries) same ∙ p.entry_is; packet_is = p.packet_is })) in
          from_put_out packet (s.merged ++ next ∷ [])
          (subst (λ ps. In packet ps) (sym (put_out_more s.merged next))
          (⊎_elim
          (λ (h : (p.at ≡ k) × (suc t.cursor ≡ p.cursor)).
          let book : p.book ≡ t.book = same_Some p.book t.book (sym p.is ∙ ap (slice_get books) h.0 ∙ t.is) in
          ⊎_elim
          (λ (l : p.place < t.cursor). in_left packet (put_out s.merged) t.entry.packets (old p.place t.cursor (ap (slice_get cs) h.0 ∙ t.cursor_is) refl l))
          (λ (l : t.cursor ≤ p.place).
          let place : p.place ≡ t.cursor = omega (arith, l, p.before, h.1) in
          let entry : p.entry ≡ t.entry = same_Some p.entry t.entry (sym p.entry_is ∙ (λ i. slice_get (book i).entries (place i)) ∙ t.entry_is) in
          in_right packet (put_out s.merged) t.entry.packets (subst (λ a. In packet a.packets) entry (p.among, p.packet_is)))
          (cases_lt p.place t.cursor))
          (λ (h : (p.at ≢ k) × (slice_get cs p.at ≡ Some p.cursor)). in_left packet (put_out s.merged) t.entry.packets (old p.place p.cursor h.1 refl p.before))
          (set_get cs k (suc t.cursor) p.at p.cursor p.cursor_is)));
      from_books = λ packet w.
          let h = subst (λ ps. In packet ps) (put_out_more s.merged next) (in_put_out packet (s.merged ++ next ∷ []) w) in
          ⊎_elim
          (λ (was : In packet (put_out s.merged)).
          let p = s.from_books packet (from_put_out packet s.merged was) in
          ⊎_elim
          (λ (g : (p.at ≡ k) × (slice_get new p.at ≡ Some (suc t.cursor))).
          let same : p.cursor ≡ t.cursor = same_Some p.cursor t.cursor (sym p.cursor_is ∙ ap (slice_get cs) g.0 ∙ t.cursor_is) in
          record { at = p.at; book = p.book; cursor = suc t.cursor; place = p.place; entry = p.entry; among = p.among; is = p.is; cursor_is = g.1; before = omega (arith, p.before, same); entry_is = p.entry_is; packet_is = p.packet_is })
          (λ (g : (p.at ≢ k) × (slice_get new p.at ≡ Some p.cursor)).
          record { at = p.at; book = p.book; cursor = p.cursor; place = p.place; entry = p.entry; among = p.among; is = p.is; cursor_is = g.1; before = p.before; entry_is = p.entry_is; packet_is = p.packet_is })
          (get_set cs k (suc t.cursor) p.at p.cursor p.cursor_is))
          (λ (is : In packet t.entry.packets).
          record { at = k; book = t.book; cursor = suc t.cursor; place = t.cursor; entry = t.entry; among = is.0; is = t.is; cursor_is = here; before = omega arith; entry_is = t.entry_is; packet_is = is.1 })
          (in_split packet (put_out s.merged) t.entry.packets h.0 h.1);
      begun = λ j b d e f l.
          turn_stays books cs k t.cursor t.cursor_is b.site
          (⊎_elim
          (λ (g : (j ≡ k) × (suc t.cursor ≡ d)).
          subst (λ x. IsTurn books cs x.site) (same_Some t.book b (sym t.is ∙ ap (slice_get books) (sym g.0) ∙ e)) t.is_next.0)
          (λ (g : (j ≢ k) × (slice_get cs j ≡ Some d)). s.begun j b d e g.1 l)
          (set_get cs k (suc t.cursor) j d f));
    }

takes_within : (books : List Book) (cs : List ℕ) (k : ℕ) (n : HasNext books cs k) → n.cursor < length n.book.entries
takes_within books cs k n = within n.book.entries n.cursor n.entry n.entry_is

-- ---- the merge stands still

stuck : (books : List Book) (cs : List ℕ) (s : AreOfMerge books cs) → IsStuck books cs
    → (k : ℕ) (next : SiteEntry) (later : List Entry) → MayFollow s.merged (left_at cs books) k next later → ⊥
stuck books cs s still k next later m =
    let f = left_from cs books k (record { site = next.site; entries = next.entry ∷ later }) m.is in
    still k (record {
      next = record {
        book = f.book;
        cursor = f.cursor;
        entry = next.entry;
        is = f.is;
        cursor_is = f.at;
        entry_is = next_of_drop f.book.entries f.cursor next.entry later f.entries;
      };
      is_next = (
        λ j b n e g holds.
            let used : length b.entries ≤ n = all_dropped b.entries n (all_at (IsUsedUp next.site) (left_at cs books) m.earlier j (record { site = b.site; entries = drop n b.entries }) (left_to cs books j b n e g)
            (holds.0 ∙ ap (λ x. x.node) f.site) (subst (λ (x : Site). b.site.incarnation < x.incarnation) f.site holds.1)) in
            omega (arith, used, holds.2),
        is_sent books cs s.merged s.from_books next.entry.event m.delivers,
      );
    })

whole : (books : List Book) (cs : List ℕ) (s : AreOfMerge books cs) → AreUsedUp books cs → IsMerge books s.merged
whole books cs s up = record {
  left = left_at cs books;
  merges = s.merges;
  whole = all_from (λ (b : Book). b.entries ≡ []) (left_at cs books) (λ k b e.
      let f = left_from cs books k b e in
      sym f.entries ∙ drop_all f.book.entries f.cursor (up k f.book f.cursor f.is f.at));
}

-- ---- the least site that is not used up waits on a packet

waits_by : (books : List Book) (cs : List ℕ) (entry : Entry) (e : Event) → entry.event ≡ e → (IsSent books cs e → ⊥)
    → (packet : Packet) × (entry.event ≡ Deliver packet) × (PutOut books cs packet → ⊥)
waits_by books cs entry (Deliver packet) e n = (packet, e, n)
waits_by books cs entry Take e n = absurd (n tt)
waits_by books cs entry _ e n = absurd (n tt)

never_sent : (books : List Book) (cs : List ℕ) (s : AreOfMerge books cs) → IsStuck books cs → (k : ℕ) (l : LeastLeft books cs k) → WasNeverSent books l.book.site l.cursor
never_sent books cs s still k l =
    let turn : IsTurn books cs l.book.site = λ j b c e f h.
    true≢false (sym (earlier_is_before b.site l.book.site h.0 h.1) ∙ l.least j b c e f h.2) in
    let w = waits_by books cs l.entry l.entry.event refl (λ sent. still k (record { next = l.next; is_next = (turn, sent) })) in
    record {
      merged = s.merged;
      left = left_at cs books;
      merges = s.merges;
      stuck = stuck books cs s still;
      waits = record {
        at = k;
        book = l.book;
        entry = l.entry;
        packet = w.0;
        is = l.is;
        of_site = refl;
        left_is = left_to cs books k l.book l.cursor l.is l.cursor_is;
        next = l.entry_is;
        delivers = w.1;
        not_sent = λ p. w.2 (s.from_books w.0 p);
      };
      least = λ other at h.
          let f = left_from cs books h.at (record { site = h.book.site; entries = drop at h.book.entries }) h.left_is in
          let book : f.book ≡ h.book = same_Some f.book h.book (sym f.is ∙ h.is) in
          let more : slice_get f.book.entries f.cursor ≡ Some h.entry =
          next_of_drop f.book.entries f.cursor h.entry (drop (suc at) h.book.entries) (f.entries ∙ drop_next h.book.entries at h.entry h.next) in
          subst (λ (x : Site). site_before x l.book.site ≡ false) (ap (λ x. x.site) book ∙ h.of_site)
          (l.least h.at f.book f.cursor f.is f.at (within f.book.entries f.cursor h.entry more));
    }

-- ---- how many entries are left

abbrev pub entries_left : List ℕ → List Book → ℕ
entries_left [] books = 0
entries_left (c ∷ cs) [] = 0
entries_left (c ∷ cs) (b ∷ bs) = (length b.entries - c) + entries_left cs bs

left_falls : (cs : List ℕ) (books : List Book) (k c : ℕ) (book : Book) → slice_get books k ≡ Some book → slice_get cs k ≡ Some c → c < length book.entries
    → entries_left (slice_set cs k (suc c)) books < entries_left cs books
left_falls [] books k c book e f l = absurd (none-some c f)
left_falls (d ∷ ds) [] k c book e f l = absurd (none-some book e)
left_falls (d ∷ ds) (x ∷ xs) zero c book e f l =
    let less : c < length x.entries = subst (λ (b : Book). c < length b.entries) (sym (same_Some x book e)) l in
    omega (arith, same_Some d c f, less)
left_falls (d ∷ ds) (x ∷ xs) (suc k) c book e f l = omega (arith, left_falls ds xs k c book e f l)

takes_falls : (books : List Book) (cs : List ℕ) (k : ℕ) (n : HasNext books cs k) → entries_left (slice_set cs k (suc n.cursor)) books < entries_left cs books
takes_falls books cs k n = left_falls cs books k n.cursor n.book n.is n.cursor_is (takes_within books cs k n)

-- ---- the loop of a merge

cursor_is : (cs : List ℕ) (k v c : ℕ) → slice_get cs k ≡ Some c → v ≡ get_or cs k v → c ≡ v
cursor_is cs k v c at e = same_Some c v (sym at ∙ slice_get_read cs (length cs) k v refl (slice_get_within cs k c at) e)

next_is : (cs : List ℕ) (k v c : ℕ) → slice_get cs k ≡ Some c → v ≡ get_or cs k v → slice_set cs k (suc c) ≡ slice_set cs k (v + 1)
next_is cs k v c at e = let same : suc c ≡ v + 1 = omega (arith, cursor_is cs k v c at e) in ap (slice_set cs k) same

set_each : (cs : List ℕ) (k v : ℕ) → length (slice_set cs k v) ≡ length cs
set_each [] k v = refl
set_each (x ∷ xs) zero v = refl
set_each (x ∷ xs) (suc k) v = ap suc (set_each xs k v)

pub kept_next : (books : List Book) (cs : List ℕ) (k v : ℕ) → Kept books cs → Takes books cs k → v ≡ get_or cs k v → Kept books (slice_set cs k (v + 1))
kept_next books cs k v h t e =
    (subst (AreOfMerge books) (next_is cs k v t.cursor t.cursor_is e) (takes books cs h.0 k t), set_each cs k (v + 1) ∙ h.1)

pub falls : (books : List Book) (cs : List ℕ) (k v : ℕ) → Takes books cs k → v ≡ get_or cs k v → entries_left (slice_set cs k (v + 1)) books < entries_left cs books
falls books cs k v t e =
    subst (λ (xs : List ℕ). entries_left xs books < entries_left cs books) (next_is cs k v t.cursor t.cursor_is e) (takes_falls books cs k t.next)

pub next_fits : (books : List Book) (cs : List ℕ) (k v : ℕ) (b : Book) → Takes books cs k → v ≡ get_or cs k v → slice_get books k ≡ Some b
    → length b.entries < 18446744073709551616 → v + 1 < 18446744073709551616
next_fits books cs k v b t e is less =
    let many : length t.book.entries ≡ length b.entries = ap (λ x. length x.entries) (same_Some t.book b (sym t.is ∙ is)) in
    omega (arith, takes_within books cs k t.next, cursor_is cs k v t.cursor t.cursor_is e, many, less)

-- ---- the end of an audit, whose cursors are also seen as a slice

pub never_waits : (books : List Book) (cs ds : List ℕ) (k : ℕ) (b : Book) (site : Site) (v : ℕ) → ds ≡ cs → AreOfMerge books cs → IsStuck books cs
    → LeastLeft books ds k → slice_get books k ≡ Some b → site ≡ b.site → v ≡ get_or cs k v → WasNeverSent books site v
never_waits books cs ds k b site v same s still least is site_is at =
    let l = subst (λ xs. LeastLeft books xs k) same least in
    let of_site : l.book.site ≡ site = ap (λ x. x.site) (same_Some l.book b (sym l.is ∙ is)) ∙ sym site_is in
    subst (λ t. WasNeverSent books t v) of_site
    (subst (λ c. WasNeverSent books l.book.site c) (cursor_is cs k v l.cursor l.cursor_is at) (never_sent books cs s still k l))

pub all_merged : (books : List Book) (cs ds : List ℕ) → ds ≡ cs → (s : AreOfMerge books cs) → AreUsedUp books ds → IsMerge books s.merged
all_merged books cs ds same s up = whole books cs s (subst (AreUsedUp books) same up)

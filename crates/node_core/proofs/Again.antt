-- What is said again, unit by unit.
use Rattle.std.proofs.Common.{◌≡◌, ℕ, zero, suc, ◌+◌, ◌<◌, ◌≤◌, Bool, true, false, cond, true≢false, Option, Some, None, List, [], ◌∷◌, ◌++◌, length, take, slice_get, refl, sym, ap, ◌∙◌, subst, arith, append_assoc, append-nil, add-zero}
use Rattle.std.proofs.Math.Seq.{take-length}
use Rattle.std.proofs.lemmas.List.{take_all}
use Rattle.node_core.proofs.Sending.{sends_more}
use Rattle.node_core.specs.Outgoing.{Outgoing, Sends}
use Rattle.node_core.specs.Requests.{give_again, given_again, gives_again, moved_by, return_again, returned_again, returns_again}
use Rattle.node_core.specs.declared.reply.Reply.TheVariants.{Ignored, Moved}
use Rattle.packet_wire.specs.declared.packet.Packet.{Packet}
use Rattle.spawn_frame.specs.Aborts.{is_open}
use Rattle.spawn_frame.specs.Tables.{has_status, is_out, open_guests}
use Rattle.spawn_frame.specs.Units.{Entry, GuestEntry}
use Rattle.spawn_frame.specs.declared.site.Site.{Site}
use Rattle.spawn_frame.specs.declared.status.Status.{Status}
use Rattle.spawn_frame.specs.declared.status.Status.TheVariants.{Aborted, Done, Dropped, Finished, Here, Out, Ready, Settled, Split}
use Rattle.steal_return.proofs.Scans.{IsNext, onward}

-- the Gives of one child more, of those from serial s on
pub gives_next : (from : Site) (s : ℕ) (own : List Entry) (i : ℕ) → i < length own
    → gives_again from s (take (suc i) own) ≡ gives_again from s (take i own) ++ given_again from (s + i) (slice_get own i)
gives_next from s [] i l = absurd (omega (arith, l))
gives_next from s (c ∷ cs) zero l =
    append-nil (give_again from s c c.status) ∙ ap (λ k. give_again from k c c.status) (sym (add-zero s))
gives_next from s (c ∷ cs) (suc i) l =
    ap (λ ps. give_again from s c c.status ++ ps) (gives_next from (suc s) cs i (omega (arith, l)))
    ∙ sym (append_assoc (give_again from s c c.status) (gives_again from (suc s) (take i cs)) (given_again from (suc s + i) (slice_get cs i)))
    ∙ ap (λ k. (give_again from s c c.status ++ gives_again from (suc s) (take i cs)) ++ given_again from k (slice_get cs i)) (omega arith)

-- the Returns of one guest more
pub returns_next : (from : Site) (guests : List GuestEntry) (i : ℕ) → i < length guests
    → returns_again from (take (suc i) guests) ≡ returns_again from (take i guests) ++ returned_again from (slice_get guests i)
returns_next from [] i l = absurd (omega (arith, l))
returns_next from (g ∷ gs) zero l = append-nil (return_again from g g.entry.status)
returns_next from (g ∷ gs) (suc i) l =
    ap (λ ps. return_again from g g.entry.status ++ ps) (returns_next from gs i (omega (arith, l)))
    ∙ sym (append_assoc (return_again from g g.entry.status) (returns_again from (take i gs)) (returned_again from (slice_get gs i)))

-- of a guest that isn't open nothing is said
none_returned : (from : Site) (g : GuestEntry) (status : Status) → is_open status ≡ false → return_again from g status ≡ []
none_returned from g (Finished result) h = absurd (true≢false h)
none_returned from g Ready h = refl
none_returned from g Here h = refl
none_returned from g Split h = refl
none_returned from g (Out thief) h = refl
none_returned from g (Done result) h = refl
none_returned from g Aborted h = refl
none_returned from g (Settled result) h = refl
none_returned from g Dropped h = refl

-- so the open ones say all
pub returns_open : (from : Site) (gs : List GuestEntry) → returns_again from (open_guests gs) ≡ returns_again from gs
returns_open from [] = refl
returns_open from (g ∷ gs) = go (is_open g.entry.status) refl (returns_open from gs)
  where
    go : (b : Bool) → is_open g.entry.status ≡ b → returns_again from (open_guests gs) ≡ returns_again from gs
        → returns_again from (cond b (g ∷ open_guests gs) (open_guests gs)) ≡ return_again from g g.entry.status ++ returns_again from gs
    go true t e = ap (λ ps. return_again from g g.entry.status ++ ps) e
    go false t e = e ∙ sym (ap (λ ps. ps ++ returns_again from gs) (none_returned from g g.entry.status t))

-- where nothing is said, the reply is Ignored
pub none_moved : (ps qs : List Packet) → length (ps ++ qs) ≡ length ps → Ignored ≡ moved_by qs
none_moved ps [] e = refl
none_moved [] (q ∷ qs) e = absurd (omega (arith, e))
none_moved (p ∷ ps) (q ∷ qs) e = none_moved ps (q ∷ qs) (omega (arith, e))

-- where something is, it is Moved
pub some_moved : (ps qs : List Packet) → (length (ps ++ qs) ≡ length ps → ⊥) → Moved ≡ moved_by qs
some_moved ps [] e = absurd (e (ap length (append-nil ps)))
some_moved ps (q ∷ qs) e = refl

-- the Gives up to a serial are sent, and that of the child at it
pub gives_sent : (old mid new : Outgoing) (from : Site) (own : List Entry) (i : ℕ) → i < length own
    → Sends old (gives_again from 0 (take i own)) mid → Sends mid (given_again from i (slice_get own i)) new
    → Sends old (gives_again from 0 (take (i + 1) own)) new
gives_sent old mid new from own i l before then =
    let P : List Packet → Type 0 = λ ps. Sends old ps new in
    let next = gives_next from 0 own i l in
    let more : i + 1 ≡ suc i = omega arith in
    let start : 0 + i ≡ i = omega arith in
    let at : take (i + 1) own ≡ take (suc i) own = ap (λ k. take k own) more in
    subst P (sym (ap (gives_again from 0) at ∙ next ∙ ap (λ k. gives_again from 0 (take i own) ++ given_again from k (slice_get own i)) start))
    (sends_more old mid new (gives_again from 0 (take i own)) (given_again from i (slice_get own i)) before then)

-- the Returns up to a place are sent, and that of the guest at it
pub returns_sent : (old mid new : Outgoing) (from : Site) (guests : List GuestEntry) (i : ℕ) → i < length guests
    → Sends old (returns_again from (take i guests)) mid → Sends mid (returned_again from (slice_get guests i)) new
    → Sends old (returns_again from (take (i + 1) guests)) new
returns_sent old mid new from guests i l before then =
    let P : List Packet → Type 0 = λ ps. Sends old ps new in
    let more : i + 1 ≡ suc i = omega arith in
    let at : take (i + 1) guests ≡ take (suc i) guests = ap (λ k. take k guests) more in
    subst P (sym (ap (returns_again from) at ∙ returns_next from guests i l))
    (sends_more old mid new (returns_again from (take i guests)) (returned_again from (slice_get guests i)) before then)

-- where the walk over the open guests has come to the end, all Returns are sent
pub all_returned : (old new : Outgoing) (from : Site) (guests : List GuestEntry) (i : ℕ) → length (open_guests guests) ≤ i
    → Sends old (returns_again from (take i (open_guests guests))) new → Sends old (returns_again from guests) new
all_returned old new from guests i le sent =
    subst (λ ps. Sends old ps new) (ap (returns_again from) (take_all i (open_guests guests) le) ∙ returns_open from guests) sent

-- ---- a walk over the children that are out

-- of a child that isn't out nothing is said
none_given : (from : Site) (s : ℕ) (o : Option Entry) → has_status is_out o ≡ false → given_again from s o ≡ []
none_given from s None h = refl
none_given from s (Some entry) h = by entry.status h
  where
    by : (status : Status) → is_out status ≡ false → give_again from s entry status ≡ []
    by (Out thief) g = absurd (true≢false g)
    by Ready g = refl
    by _ g = refl

-- so a walk may pass to the next one that is out
gives_over : (from : Site) (own : List Entry) (i k : ℕ) → i ≤ k → k ≤ length own
    → ((j : ℕ) → i ≤ j → j < k → has_status is_out (slice_get own j) ≡ false)
    → gives_again from 0 (take i own) ≡ gives_again from 0 (take k own)
gives_over from own i k le within gap =
    onward (λ j. gives_again from 0 (take i own) ≡ gives_again from 0 (take j own)) i k le
    (λ j l m e.
    e ∙ sym (append-nil (gives_again from 0 (take j own)))
    ∙ ap (λ ps. gives_again from 0 (take j own) ++ ps) (sym (none_given from (0 + j) (slice_get own j) (gap j l m)))
    ∙ sym (gives_next from 0 own j (omega (arith, m, within)))) refl

-- the Gives up to a serial are sent, and that of the next child that is out
pub gives_to_next : (old mid new : Outgoing) (from : Site) (own : List Entry) (i k : ℕ) → IsNext is_out own i k
    → Sends old (gives_again from 0 (take i own)) mid → Sends mid (given_again from k (slice_get own k)) new
    → Sends old (gives_again from 0 (take (k + 1) own)) new
gives_to_next old mid new from own i k next before then =
    gives_sent old mid new from own k next.within
    (subst (λ ps. Sends old ps mid) (gives_over from own i k next.behind (omega (arith, next.within)) next.gap) before) then

-- where none is out from here on, all Gives are sent
pub all_given : (old new : Outgoing) (from : Site) (own : List Entry) (i : ℕ) → i ≤ length own
    → ((j : ℕ) → i ≤ j → has_status is_out (slice_get own j) ≡ false)
    → Sends old (gives_again from 0 (take i own)) new → Sends old (gives_again from 0 own) new
all_given old new from own i le none sent =
    subst (λ ps. Sends old ps new)
    (gives_over from own i (length own) le (omega arith) (λ j l m. none j l) ∙ ap (gives_again from 0) (take-length own)) sent

-- where the walk has come to the end, all Gives are sent
pub whole_given : (old new : Outgoing) (from : Site) (own : List Entry) (i : ℕ) → i ≡ length own
    → Sends old (gives_again from 0 (take i own)) new → Sends old (gives_again from 0 own) new
whole_given old new from own i e sent =
    subst (λ ps. Sends old ps new) (ap (λ k. gives_again from 0 (take k own)) e ∙ ap (gives_again from 0) (take-length own)) sent

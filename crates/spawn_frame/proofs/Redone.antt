-- A child that was out is redone.
use Rattle.std.proofs.Common.{◌≡◌, ℕ, suc, ◌+◌, true, false, List, map, Option, is_some, refl, sym, ap, arith}
use Rattle.std.proofs.lemmas.Bool.{false≢true}
use Rattle.spawn_frame.specs.Frames.{cover_of}
use Rattle.spawn_frame.specs.Inlets.{is_done}
use Rattle.spawn_frame.specs.Tables.{is_out}
use Rattle.spawn_frame.specs.Units.{change_at, redone, table_own}
use Rattle.spawn_frame.specs.Works.{IsTable, change_child, child_entry, entry_of, is_whole, redone_work, table_of}
use Rattle.spawn_frame.specs.declared.child.Child.{Child}
use Rattle.spawn_frame.specs.declared.guest.Guest.{Guest}
use Rattle.spawn_frame.specs.declared.site.Site.{Site}
use Rattle.spawn_frame.specs.declared.status.Status.{Status}
use Rattle.spawn_frame.specs.declared.status.Status.TheVariants.{Aborted, Done, Dropped, Finished, Here, Out, Ready, Settled, Split}
use Rattle.spawn_frame.specs.declared.unit.Unit.{Unit as WorkUnit}
use Rattle.spawn_frame.specs.declared.work.Work.{Work}
use Rattle.spawn_frame.proofs.Kept.{own_kept}
use Rattle.spawn_frame.proofs.Lookups.{child_view}
use Rattle.spawn_frame.proofs.Statuses.{HasChild}

-- what frames see of a status that is out
pub record IsAway (status : Status) : Type 0 where
  pub whole : is_whole status ≡ true
  pub undone : is_done status ≡ false
  pub uncovered : is_some (cover_of status) ≡ false

pub out_is_away : (status : Status) → is_out status ≡ true → IsAway status
out_is_away (Out thief) h = record { whole = refl; undone = refl; uncovered = refl }
out_is_away Ready h = absurd (false≢true h)
out_is_away Here h = absurd (false≢true h)
out_is_away Split h = absurd (false≢true h)
out_is_away (Done result) h = absurd (false≢true h)
out_is_away Aborted h = absurd (false≢true h)
out_is_away (Finished result) h = absurd (false≢true h)
out_is_away (Settled result) h = absurd (false≢true h)
out_is_away Dropped h = absurd (false≢true h)

pub redone_kept : (site : Site) (limit : ℕ) (own : List Child) (guests : List Guest) → IsTable (table_of site limit own guests) own guests → (k : ℕ) → HasChild is_out own k
    → IsTable (table_of site limit (change_child redone_work own k) guests) (change_child redone_work own k) guests
redone_kept site limit own guests h k c =
    let away = out_is_away c.child.work.status c.passes in
    own_kept site limit own guests h redone_work (λ w. refl) k c.child c.is (λ f. record { attempt = omega arith; status = refl; whole = λ t. f.whole away.whole; split = λ s. absurd (cc); children = f.children })
    (λ i. record { parent = c.child.parent; done = sym away.undone i; covered = sym away.uncovered i })

pub redone_view : (site : Site) (limit : ℕ) (own : List Child) (guests : List Guest) (k : ℕ)
    → table_of site limit (change_child redone_work own k) guests ≡ table_own (table_of site limit own guests) (change_at redone (map child_entry own) k)
redone_view site limit own guests k =
    ap (table_own (table_of site limit own guests)) (child_view redone_work redone (λ parent w. next parent w) own k)
  where
    next : (parent : Option WorkUnit) (w : Work) → entry_of parent (redone_work w) ≡ redone (entry_of parent w)
    next parent w = let e : w.attempt + 1 ≡ suc w.attempt = omega arith in λ i. record { parent = parent; prefix = w.path.options; attempt = e i; status = Ready }

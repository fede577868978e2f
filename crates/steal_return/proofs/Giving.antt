-- The child that a thief gets.
use Rattle.std.proofs.Common.{◌≡◌, ℕ, true, false, MatchOption, Option, Some, None, [], ◌∷◌, slice_get, refl, sym, ap, subst, ◌∙◌, inr, true≢false, arith}
use Rattle.spawn_frame.specs.Picks.{is_ready}
use Rattle.spawn_frame.specs.Tables.{attempt_in, has_status, prefix_in}
use Rattle.spawn_frame.specs.Units.{Table, table_gets}
use Rattle.spawn_frame.specs.declared.site.Site.{Site}
use Rattle.spawn_frame.specs.declared.status.Status.TheVariants.{Out}
use Rattle.spawn_frame.specs.declared.unit.Unit.TheVariants.{Own}
use Rattle.steal_return.proofs.Scans.{found_first, found_none, ready_status, there}
use Rattle.steal_return.specs.Ledger.{Ledger, ledger_table}
use Rattle.steal_return.specs.Steals.{GivesChildren, GivesNothing, MayGive, first_ready, gift_at, is_older}

pub may_give : (was now : Ledger) → was ≡ now → (thief : Site) (o : Option ℕ) → is_older was.known thief ≡ false → o ≡ first_ready was.own
    → MatchOption o (GivesNothing now thief) (MayGive now thief)
may_give was now same thief None not_older e =
    subst (λ l. GivesNothing l thief) same
    (inr (λ k entry at ready. true≢false (sym (ap is_ready ready) ∙ found_none is_ready was.own 0 (sym e) k entry at)))
may_give was now same thief (Some serial) not_older e =
    subst (λ l. MayGive l thief serial) same
    (record { not_older = not_older; least = sym e; ready = found_first is_ready was.own serial (sym e) })

pub gives_child : (was now : Ledger) → was ≡ now → (thief : Site) (serial : ℕ) (table : Table)
    → is_older now.known thief ≡ false → has_status is_ready (slice_get now.own serial) ≡ true
    → table ≡ table_gets was.table (Own serial) (Out thief) → GivesChildren now thief (gift_at now.own serial ∷ []) (ledger_table was table)
gives_child was now same thief serial table not_older ready after =
    let t = there is_ready now.own serial ready in
    record {
      parent = t.0.parent;
      some = omega arith;
      most = omega arith;
      alone = λ e. refl;
      rising = refl;
      each = (
        ledger_table was table,
        record {
          entry = t.0;
          not_older = not_older;
          is = t.1;
          ready = ready_status t.0.status t.2;
          attempt = ap attempt_in t.1;
          prefix = ap prefix_in t.1;
          after =
              ap (ledger_table was) after ∙ ap (λ l. ledger_table l (table_gets l.table (Own serial) (Out thief))) same;
        },
        refl,
        refl,
      );
    }

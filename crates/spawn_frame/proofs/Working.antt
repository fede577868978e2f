-- A job that is worked on.
use Rattle.std.proofs.Common.{◌≡◌, ℕ, Bool, true, false, ◌&&◌, ◌==◌, List, Option, Some, None, bytes_eq, refl, sym, ap, ◌∙◌}
use Rattle.std.specs.Cmp.Lexicographic.{same_text}
use Rattle.std.specs.Bool.{OnTrue}
use Rattle.std.proofs.lemmas.Bool.{and_parts, eqb-true, false≢true}
use Rattle.spawn_frame.specs.Tables.{IsAtWork, is_at_work, is_here, prefix_in}
use Rattle.spawn_frame.specs.Units.{Entry, Table, unit_of}
use Rattle.spawn_frame.specs.Works.{IsWork}
use Rattle.spawn_frame.specs.declared.status.Status.{Status}
use Rattle.spawn_frame.specs.declared.status.Status.TheVariants.{Aborted, Done, Dropped, Finished, Here, Out, Ready, Settled, Split}
use Rattle.spawn_frame.specs.declared.unit.Unit.{Unit as WorkUnit}
use Rattle.spawn_frame.specs.declared.work.Work.{Work}

pub here_status : (status : Status) → is_here status ≡ true → status ≡ Here
here_status Here h = refl
here_status Ready h = absurd (false≢true h)
here_status Split h = absurd (false≢true h)
here_status (Out thief) h = absurd (false≢true h)
here_status (Done result) h = absurd (false≢true h)
here_status Aborted h = absurd (false≢true h)
here_status (Finished result) h = absurd (false≢true h)
here_status (Settled result) h = absurd (false≢true h)
here_status Dropped h = absurd (false≢true h)

at_work_entry : (attempt : ℕ) (prefix : List ℕ) (o : Option Entry) → is_at_work attempt prefix o ≡ true → IsAtWork attempt prefix o
at_work_entry attempt prefix None h = absurd (false≢true h)
at_work_entry attempt prefix (Some e) h =
    let here = and_parts (is_here e.status) (e.attempt == attempt && bytes_eq e.prefix prefix) h in
    let same = and_parts (e.attempt == attempt) (bytes_eq e.prefix prefix) here.1 in
    record {
      entry = e;
      is = refl;
      here = here_status e.status here.0;
      attempt_is = eqb-true e.attempt attempt same.0;
      prefix_is = same_text e.prefix prefix (sym same.1);
    }

-- what is kept of the unit decides
-- a unit that is here at the attempt is at work with the prefix that it has
pub job_tested : (table : Table) (unit : WorkUnit) (w : Work) (attempt : ℕ) (prefix : List ℕ) (here same : Bool) → IsWork table unit w → here ≡ (is_here w.status && w.attempt == attempt) → here ≡ true
    → same ≡ bytes_eq (prefix_in (unit_of table unit)) prefix → same ≡ is_at_work attempt prefix (unit_of table unit)
job_tested table unit w attempt prefix here same h e t s =
    let parts = and_parts (is_here w.status) (w.attempt == attempt) (sym e ∙ t) in
    s ∙ ap (λ o. bytes_eq (prefix_in o) prefix) h.is
    ∙ (λ i. sym parts.0 i && (sym parts.1 i && bytes_eq w.path.options prefix))
    ∙ ap (is_at_work attempt prefix) (sym h.is)

pub at_work : (attempt : ℕ) (prefix : List ℕ) (unit : Option Entry) (b : Bool) → b ≡ is_at_work attempt prefix unit → OnTrue b (IsAtWork attempt prefix unit)
at_work attempt prefix unit true e = at_work_entry attempt prefix unit (sym e)
at_work attempt prefix unit false e = tt

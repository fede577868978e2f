-- What the search in the defined order finds is right, and so is what a run in memory settles, and that there is no cover by a reason.
use Rattle.std.proofs.Common.{◌≡◌, ℕ, Bool, List, [], Option, Some, None, refl, sym, subst}
use Rattle.cover_problem.specs.ExactCover.{IsExactCover, in_order}
use Rattle.cover_problem.specs.Numbers.{is_in}
use Rattle.cover_problem.specs.Prefix.{IsBarren}
use Rattle.cover_problem.specs.Problem.{Problem}
use Rattle.cover_problem.specs.Search.{first}
use Rattle.cover_problem.specs.declared.answer.Answer.{Answer}
use Rattle.cover_problem.specs.declared.answer.Answer.TheVariants.{Cover, NoCover}
use Rattle.cover_problem.proofs.Covering.{first_covers, none_barren}
use Rattle.cover_problem.proofs.Ordered.{in_order_rises}
use Rattle.cover_problem.proofs.Sets.{in_order_same}
use Rattle.dlx_reader.specs.Writing.{IsWritable}
use Rattle.memory_run.specs.Settled.{IsSettled}
use Rattle.reason_engine.specs.Causes.{IsCause}
use Rattle.reason_engine.specs.declared.cause.Cause.{Cause}
use Rattle.search_engines.specs.Alone.{answer_by}
use Rattle.answer_engine.specs.Answers.{IsRight, IsWonOf}
use Rattle.answer_engine.specs.declared.basis.Basis.TheVariants as bases

-- a cover in the order of the file is the same set
in_order_counts : (problem : Problem) (options : List ℕ) → IsExactCover problem (is_in options) → IsExactCover problem (is_in (in_order problem options))
in_order_counts problem options h = subst (IsExactCover problem) (λ i o. sym (in_order_same problem options o (h.in_range o)) i) h

by_first : (problem : Problem) (found : Option (List ℕ)) → first problem [] ≡ found → IsRight problem (answer_by problem found)
by_first problem (Some chosen) e = record {
  exact = in_order_counts problem chosen (first_covers problem [] chosen refl e).cover;
  order = in_order_rises problem chosen;
}
by_first problem None e = record {
  none = λ chosen cover. none_barren problem [] e chosen cover refl;
  first = e;
}

no_first : (problem : Problem) (found : Option (List ℕ)) → first problem [] ≡ found → ((chosen : ℕ → Bool) → IsExactCover problem chosen → ⊥) → found ≡ None
no_first problem None e none = refl
no_first problem (Some chosen) e none = absurd (none (is_in chosen) (first_covers problem [] chosen refl e).cover)

settled_is_right : (problem : Problem) (answer : Answer) → IsSettled problem answer → IsRight problem answer
settled_is_right problem (Cover options) settled = record { exact = settled.0; order = settled.1 }
settled_is_right problem NoCover settled = record { none = settled; first = no_first problem (first problem []) refl settled }

barren_is_right : (problem : Problem) → IsBarren problem [] → IsRight problem NoCover
barren_is_right problem barren = settled_is_right problem NoCover (λ chosen cover. barren chosen cover refl)

-- ---- with what it rests on

pub search_is_won : (problem : Problem) (answer : Answer) (states : ℕ) → answer ≡ answer_by problem (first problem []) → IsWonOf problem (record { answer = answer; basis = bases.Search states })
search_is_won problem answer states e = record { right = subst (IsRight problem) (sym e) (by_first problem (first problem []) refl); rests = tt }

pub right_is_won : (problem : Problem) (answer : Answer) (clauses : ℕ) → IsRight problem answer → IsWonOf problem (record { answer = answer; basis = bases.Learning clauses })
right_is_won problem answer clauses right = record { right = right; rests = tt }

pub settled_is_won : (problem : Problem) (answer : Answer) (workers : ℕ) → IsSettled problem answer → IsWonOf problem (record { answer = answer; basis = bases.Run workers })
settled_is_won problem answer workers settled = record { right = settled_is_right problem answer settled; rests = tt }

pub cause_is_won : (problem : Problem) (cause : Cause) → IsCause problem cause → IsBarren problem [] → IsWonOf problem (record { answer = NoCover; basis = bases.Reason cause })
cause_is_won problem cause holds barren = record { right = barren_is_right problem barren; rests = (refl, holds) }

-- ---- what is right can be written

pub right_is_writable : (problem : Problem) (answer : Answer) → IsRight problem answer → IsWritable problem answer
right_is_writable problem (Cover options) right = right.order
right_is_writable problem NoCover right = tt

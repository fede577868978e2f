-- The own children when the marked ones up to a serial are aborted, and what that reaches.
use Rattle.std.proofs.Common.{◌≡◌, Option, None, ℕ, zero, suc, Bool, true, false, ◌&&◌, if◌then◌else◌, List, [], ◌∷◌, ◌++◌, length, drop, Some, slice_get, refl, sym, ap, ◌∙◌, ◌≤◌, arith, length-append}
use Rattle.std.proofs.lemmas.Option.{same_Some, none-some}
use Rattle.spawn_frame.specs.Aborts.{is_open, reached, reached_one}
use Rattle.spawn_frame.specs.Tables.{has_status}
use Rattle.spawn_frame.specs.Units.{Entry, change_at, with_status}
use Rattle.spawn_frame.specs.declared.status.Status.{Status}
use Rattle.spawn_frame.specs.declared.status.Status.TheVariants.{Aborted, Done, Dropped, Finished, Here, Out, Ready, Settled, Split}
use Rattle.abort_tree.specs.Below.{abort_if, aborted, out_of, outs_from}

-- the own children, each of the first k that is marked and open aborted
abbrev pub so_far : ℕ → List Bool → List Entry → List Entry
so_far zero marks own = own
so_far (suc k) [] own = own
so_far (suc k) (m ∷ ms) [] = []
so_far (suc k) (m ∷ ms) (c ∷ cs) = abort_if m c ∷ so_far k ms cs

pub far_step : (k : ℕ) (marks : List Bool) (own : List Entry) (m : Bool) → slice_get marks k ≡ Some m → change_at (abort_if m) (so_far k marks own) k ≡ so_far (suc k) marks own
far_step k [] own m at = absurd (none-some m at)
far_step zero (n ∷ ns) [] m at = refl
far_step zero (n ∷ ns) (c ∷ cs) m at = ap (λ b. abort_if b c ∷ cs) (sym (same_Some n m at))
far_step (suc k) (n ∷ ns) [] m at = refl
far_step (suc k) (n ∷ ns) (c ∷ cs) m at = ap (λ own. abort_if n c ∷ own) (far_step k ns cs m at)

pub far_all : (marks : List Bool) (own : List Entry) → length marks ≡ length own → so_far (length own) marks own ≡ aborted marks own
far_all [] [] even = refl
far_all [] (c ∷ cs) even = refl
far_all (m ∷ ms) [] even = absurd (omega (arith, even))
far_all (m ∷ ms) (c ∷ cs) even = ap (λ own. abort_if m c ∷ own) (far_all ms cs (omega (arith, even)))

-- the next one is as it was
pub far_next : (k : ℕ) (marks : List Bool) (own : List Entry) → slice_get (so_far k marks own) k ≡ slice_get own k
far_next zero marks own = refl
far_next (suc k) [] own = refl
far_next (suc k) (m ∷ ms) [] = refl
far_next (suc k) (m ∷ ms) (c ∷ cs) = far_next k ms cs

pub far_length : (k : ℕ) (marks : List Bool) (own : List Entry) → length (so_far k marks own) ≡ length own
far_length zero marks own = refl
far_length (suc k) [] own = refl
far_length (suc k) (m ∷ ms) [] = refl
far_length (suc k) (m ∷ ms) (c ∷ cs) = ap suc (far_length k ms cs)

-- who stays as it was is not reached
pub unreached : (serial attempt : ℕ) (status : Status) → reached_one serial attempt status status ≡ []
unreached serial attempt Ready = refl
unreached serial attempt Here = refl
unreached serial attempt Split = refl
unreached serial attempt (Out thief) = refl
unreached serial attempt (Done result) = refl
unreached serial attempt Aborted = refl
unreached serial attempt (Finished result) = refl
unreached serial attempt (Settled result) = refl
unreached serial attempt Dropped = refl

one_out : (serial : ℕ) (m : Bool) (c : Entry) → reached_one serial c.attempt c.status (abort_if m c).status ≡ out_of m serial (Some c)
one_out serial true c = refl
one_out serial false c = unreached serial c.attempt c.status

pub outs_step : (k serial : ℕ) (marks : List Bool) (own : List Entry) (m : Bool) → length marks ≡ length own → slice_get marks k ≡ Some m → outs_from serial (drop k marks) (drop k own) ≡ out_of m serial (slice_get own k) ++ outs_from (suc serial) (drop (suc k) marks) (drop (suc k) own)
outs_step k serial [] own m even at = absurd (none-some m at)
outs_step k serial (n ∷ ns) [] m even at = absurd (omega (arith, even))
outs_step zero serial (n ∷ ns) (c ∷ cs) m even at =
    ap (λ b. reached_one serial c.attempt c.status (abort_if b c).status ++ reached (suc serial) cs (aborted ns cs)) (same_Some n m at)
    ∙ ap (λ outs. outs ++ reached (suc serial) cs (aborted ns cs)) (one_out serial m c)
outs_step (suc k) serial (n ∷ ns) (c ∷ cs) m even at = outs_step k serial ns cs m (omega (arith, even)) at

-- one reaches one at most
one_fewer : (serial attempt : ℕ) (old new : Status) → length (reached_one serial attempt old new) ≤ 1
one_fewer serial attempt (Out thief) Aborted = omega arith
one_fewer serial attempt (Out thief) _ = omega arith
one_fewer serial attempt _ _ = omega arith

pub out_fewer : (serial : ℕ) (m : Bool) (o : Option Entry) → length (out_of m serial o) ≤ 1
out_fewer serial true None = omega arith
out_fewer serial false None = omega arith
out_fewer serial true (Some c) = one_fewer serial c.attempt c.status (abort_if true c).status
out_fewer serial false (Some c) = omega arith

pub outs_fewer : (serial : ℕ) (marks : List Bool) (own : List Entry) → length (outs_from serial marks own) ≤ length own
outs_fewer serial [] [] = omega arith
outs_fewer serial [] (c ∷ cs) = omega (arith, length-append (reached_one serial c.attempt c.status c.status) (reached (suc serial) cs cs), one_fewer serial c.attempt c.status c.status, outs_fewer (suc serial) [] cs)
outs_fewer serial (m ∷ ms) [] = omega arith
outs_fewer serial (m ∷ ms) (c ∷ cs) = omega (arith, length-append (reached_one serial c.attempt c.status (abort_if m c).status) (reached (suc serial) cs (aborted ms cs)), one_fewer serial c.attempt c.status (abort_if m c).status, outs_fewer (suc serial) ms cs)

-- behind the last one, none is reached
pub outs_end : (serial : ℕ) (marks : List Bool) (own : List Entry) (k : ℕ) → length marks ≡ length own → k ≡ length own → outs_from serial (drop k marks) (drop k own) ≡ []
outs_end serial [] [] zero even end = refl
outs_end serial [] [] (suc k) even end = refl
outs_end serial [] (c ∷ cs) k even end = absurd (omega (arith, even))
outs_end serial (m ∷ ms) [] k even end = absurd (omega (arith, even))
outs_end serial (m ∷ ms) (c ∷ cs) zero even end = absurd (omega (arith, end))
outs_end serial (m ∷ ms) (c ∷ cs) (suc k) even end = outs_end serial ms cs k (omega (arith, even)) (omega (arith, end))

-- one child that is marked and open is aborted, and another stays
pub one_aborted : (own : List Entry) (k : ℕ) (m : Bool) → (m && has_status is_open (slice_get own k)) ≡ true → change_at (with_status Aborted) own k ≡ change_at (abort_if m) own k
one_aborted [] k m is = refl
one_aborted (c ∷ cs) zero m is = ap (λ o. (if o then with_status Aborted c else c) ∷ cs) (sym is)
one_aborted (c ∷ cs) (suc k) m is = ap (λ own. c ∷ own) (one_aborted cs k m is)

pub one_kept : (own : List Entry) (k : ℕ) (m : Bool) → (m && has_status is_open (slice_get own k)) ≡ false → own ≡ change_at (abort_if m) own k
one_kept [] k m is = refl
one_kept (c ∷ cs) zero m is = ap (λ o. (if o then with_status Aborted c else c) ∷ cs) (sym is)
one_kept (c ∷ cs) (suc k) m is = ap (λ own. c ∷ own) (one_kept cs k m is)

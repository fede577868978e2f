-- A datagram comes apart into its bytes and their code in one way.
use Rattle.std.proofs.Common.{◌≡◌, ℕ, ◌+◌, ◌≤◌, List, ◌++◌, length, take, drop, arith, ap, sym, ◌∙◌, length-append}
use Rattle.std.proofs.Math.Seq.{drop-append_seam, take-append_seam}
use Rattle.std.proofs.lemmas.List.{length-take-le}
use Rattle.sha2.proofs.Facts256.{length-sha256}
use Rattle.sha2.specs.Sha256.{sha256}
use Rattle.run_key.specs.Codes.{code, hmac, padded, sealed}

pub length_code : (key bytes : List ℕ) → length (code key bytes) ≡ 16
length_code key bytes = length-take-le 16 (hmac key bytes) (omega (arith, length-sha256 (padded 92 key ++ sha256 (padded 54 key ++ bytes))))

pub length_sealed : (key bytes datagram : List ℕ) → datagram ≡ sealed key bytes → length datagram ≡ length bytes + 16
length_sealed key bytes datagram is =
    ap length is ∙ length-append bytes (code key bytes) ∙ ap (λ n. length bytes + n) (length_code key bytes)

pub bytes_of : (key bytes datagram : List ℕ) (many : ℕ) → many + 16 ≡ length datagram → datagram ≡ sealed key bytes → many ≡ length bytes
bytes_of key bytes datagram many split is = omega (arith, split, length_sealed key bytes datagram is)

-- what stands behind the bytes is their code
pub code_of : (key bytes datagram : List ℕ) (many : ℕ) → many + 16 ≡ length datagram → datagram ≡ sealed key bytes →
    code key (take many datagram) ≡ drop many datagram
code_of key bytes datagram many split is =
    let same = bytes_of key bytes datagram many split is in
    let front : take many datagram ≡ bytes = ap (λ n. take n datagram) same ∙ ap (take (length bytes)) is ∙ take-append_seam bytes (code key bytes) in
    let rest : drop many datagram ≡ code key bytes = ap (λ n. drop n datagram) same ∙ ap (drop (length bytes)) is ∙ drop-append_seam bytes (code key bytes) in
    ap (code key) front ∙ sym rest

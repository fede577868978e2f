-- HMAC (RFC 2104) by SHA-256 (FIPS 180-4), and the code of a datagram.
use Rattle.std.specs.Prelude.{ℕ, List, ◌++◌, map, take, bit_xor}
use Rattle.sha2.specs.Sha256.{sha256}

-- a key of a block's length, each byte with this one by exclusive or
abbrev pub padded : ℕ → List ℕ → List ℕ
padded pad key = map (λ byte. bit_xor byte pad) key

-- HMAC of a message under such a key
abbrev pub hmac : List ℕ → List ℕ → List ℕ
hmac key message = sha256 (padded 92 key ++ sha256 (padded 54 key ++ message))

-- the code of these bytes: the first sixteen of that
abbrev pub code : List ℕ → List ℕ → List ℕ
code key bytes = take 16 (hmac key bytes)

-- a datagram: its bytes, and behind them their code
abbrev pub sealed : List ℕ → List ℕ → List ℕ
sealed key bytes = bytes ++ code key bytes

-- Reading from left to right, field by field, with the first fault that is met.
use Rattle.std.specs.Prelude.{◌≡◌, ℕ, zero, suc, Bool, List, [], ◌∷◌, length, drop, Option, Some, None, Result, ◌||◌, Ok, Err, nat_lt, ◌==◌, if◌then◌else◌}
use Rattle.byteorder.specs.Endian.{big_number}
use Rattle.spawn_frame.specs.declared.cause.Cause.{Cause}
use Rattle.spawn_frame.specs.declared.cause.Cause.TheVariants.{Aborted, Superseded, Unknown}
use Rattle.spawn_frame.specs.declared.child_result.ChildResult.{ChildResult}
use Rattle.spawn_frame.specs.declared.child_result.ChildResult.TheVariants.{Cover, Empty}
use Rattle.spawn_frame.specs.declared.siblings.Sibling.{Sibling}
use Rattle.spawn_frame.specs.declared.site.Site.{Site}
use Rattle.packet_wire.specs.Kinds.{is_routed, kind_numbered}
use Rattle.packet_wire.specs.WellFormed.{is_counted, is_incarnation_of, is_next_serial, is_node, is_node_count, is_option, is_option_count, is_parent_count, is_serial, is_sibling_count}
use Rattle.packet_wire.specs.declared.fault.WireFault.{WireFault}
use Rattle.packet_wire.specs.declared.fault.WireFault.TheVariants as faults
use Rattle.packet_wire.specs.declared.kind.Kind.{Kind}
use Rattle.packet_wire.specs.declared.kind.Kind.TheVariants as kinds
use Rattle.packet_wire.specs.declared.packet.Body.{Body}
use Rattle.packet_wire.specs.declared.packet.Body.TheVariants as bodies
use Rattle.packet_wire.specs.declared.packet.Packet.{Packet}
use Rattle.packet_wire.specs.declared.reading.Header.{Header}
use Rattle.packet_wire.specs.declared.writing.TheConstants.{MAGIC, SECOND_VERSION, VERSION}

-- one step after another: the first fault ends them
infixl 10 ◌>>=◌
abbrev pub ◌>>=◌ : {A B : Type 0} → Result A WireFault → (A → Result B WireFault) → Result B WireFault
(Ok x) >>= f = f x
(Err e) >>= f = Err e

-- What a function returned, seen by view, is what reading gives, unless memory ran out.
abbrev pub Gives : {X Y : Type 0} → (X → Y) → Result X WireFault → Result Y WireFault → Type 0
Gives view (Ok x) read = read ≡ Ok (view x)
Gives view (Err e) read = (e ≡ faults.Memory → ⊥) → read ≡ Err e

-- what is read of the front of the bytes, and the bytes after it
abbrev pub Read : Type 0 → Type 0
Read A = Result (A × List ℕ) WireFault

-- a number in so many bytes
unfoldable pub number_at : ℕ → List ℕ → Read ℕ
number_at width bytes = if nat_lt (length bytes) width then Err faults.Short else Ok (big_number width bytes, drop width bytes)

-- a field: such a number, if it passes the test
abbrev pub field_at : ℕ → (ℕ → Bool) → WireFault → List ℕ → Read ℕ
field_at width test fault bytes = do
  number ← number_at width bytes
  if test number.0 then Ok number else Err fault

-- as many fields as the count says, each of which passes the test
unfoldable pub fields_at : ℕ → (ℕ → Bool) → ℕ → List ℕ → Read (List ℕ)
fields_at width test zero bytes = Ok ([], bytes)
fields_at width test (suc count) bytes = do
  first ← field_at width test faults.Field bytes
  others ← fields_at width test count first.1
  Ok (first.0 ∷ others.0, others.1)

-- what a number stands for, if anything
abbrev pub known : {A : Type 0} → WireFault → Option A → List ℕ → Read A
known fault None rest = Err fault
known fault (Some x) rest = Ok (x, rest)

-- the magic, the version, and the kind
unfoldable pub start_at : List ℕ → Read Kind
start_at bytes = do
  magic ← field_at 2 (λ n. n == MAGIC) faults.Magic bytes
  version ← field_at 1 (λ n. n == VERSION || n == SECOND_VERSION) faults.Version magic.1
  number ← number_at 1 version.1
  known faults.Kind (kind_numbered version.0 number.0) number.1

-- a node, and its incarnation
unfoldable pub site_at : List ℕ → Read Site
site_at bytes = do
  node ← field_at 1 is_node faults.Field bytes
  incarnation ← field_at 4 (is_incarnation_of node.0) faults.Field node.1
  Ok (record { node = node.0; incarnation = incarnation.0 }, incarnation.1)

-- the kind, the sender and the receiver, and then whether the kind goes between them
unfoldable pub header_at : List ℕ → Read Header
header_at bytes = do
  kind ← start_at bytes
  from ← site_at kind.1
  to ← site_at from.1
  if is_routed kind.0 from.0 to.0 then Ok (record { kind = kind.0; from = from.0; to = to.0 }, to.1) else Err faults.Field

-- a list of at least so many options: its count, and each number
unfoldable pub options_at : ℕ → List ℕ → Read (List ℕ)
options_at least bytes = do
  count ← field_at 2 (is_option_count least) faults.Field bytes
  fields_at 2 is_option count.0 count.1

-- a list of incarnations: its count, and each of them
unfoldable pub incarnations_at : List ℕ → Read (List ℕ)
incarnations_at bytes = do
  count ← field_at 1 is_node_count faults.Field bytes
  fields_at 4 is_counted count.0 count.1

-- a serial number, and an attempt
unfoldable pub child_at : List ℕ → Read (ℕ × ℕ)
child_at bytes = do
  serial ← field_at 4 is_serial faults.Field bytes
  attempt ← field_at 4 is_counted faults.Field serial.1
  Ok ((serial.0, attempt.0), attempt.1)

-- 0 for none, or 1 and the options of the cover
unfoldable pub result_at : List ℕ → Read ChildResult
result_at bytes = do
  flag ← field_at 1 (λ n. nat_lt n 2) faults.Field bytes
  if flag.0 == 0 then Ok (Empty, flag.1) else (options_at 1 flag.1 >>= λ options. Ok (Cover options.0, options.1))

-- the cause that a number stands for, if any
abbrev pub cause_numbered : ℕ → Option Cause
cause_numbered n =
    if n == 1 then Some Aborted
    else if n == 2 then Some Superseded
    else if n == 3 then Some Unknown
    else None

-- a cause, by its number
unfoldable pub cause_at : List ℕ → Read Cause
cause_at bytes = do
  number ← number_at 1 bytes
  known faults.Field (cause_numbered number.0) number.1

-- the prefix of a parent: its count, and each number
unfoldable pub parent_at : List ℕ → Read (List ℕ)
parent_at bytes = do
  count ← field_at 2 is_parent_count faults.Field bytes
  fields_at 2 is_option count.0 count.1

-- a child among others: its serial, above the last one if there was one, its attempt and its option
unfoldable pub sibling_at : Option ℕ → List ℕ → Read Sibling
sibling_at last bytes = do
  serial ← field_at 4 (is_next_serial last) faults.Field bytes
  attempt ← field_at 4 is_counted faults.Field serial.1
  option ← field_at 2 is_option faults.Field attempt.1
  Ok (record { serial = serial.0; attempt = attempt.0; option = option.0 }, option.1)

-- as many children as the count says, whose serials rise
unfoldable pub siblings_at : Option ℕ → ℕ → List ℕ → Read (List Sibling)
siblings_at last zero bytes = Ok ([], bytes)
siblings_at last (suc count) bytes = do
  first ← sibling_at last bytes
  others ← siblings_at (Some first.0.serial) count first.1
  Ok (first.0 ∷ others.0, others.1)

-- a count, the prefix of the parent, and so many children
unfoldable pub give_many_at : List ℕ → Read (List ℕ × List Sibling)
give_many_at bytes = do
  count ← field_at 1 is_sibling_count faults.Field bytes
  prefix ← parent_at count.1
  siblings ← siblings_at None count.0 prefix.1
  Ok ((prefix.0, siblings.0), siblings.1)

-- the body of each kind
unfoldable pub body_at : Kind → List ℕ → Read Body
body_at kinds.Hello bytes = Ok (bodies.Hello, bytes)
body_at kinds.Members bytes = do
  incarnations ← incarnations_at bytes
  Ok (bodies.Members incarnations.0, incarnations.1)
body_at kinds.Steal bytes = Ok (bodies.Steal, bytes)
body_at kinds.Give bytes = do
  child ← child_at bytes
  prefix ← options_at 0 child.1
  Ok (bodies.Give child.0.0 child.0.1 prefix.0, prefix.1)
body_at kinds.GiveMany bytes = do
  given ← give_many_at bytes
  Ok (bodies.GiveMany given.0.0 given.0.1, given.1)
body_at kinds.NoWork bytes = Ok (bodies.NoWork, bytes)
body_at kinds.Return bytes = do
  child ← child_at bytes
  result ← result_at child.1
  Ok (bodies.Return child.0.0 child.0.1 result.0, result.1)
body_at kinds.Accept bytes = do
  child ← child_at bytes
  result ← result_at child.1
  Ok (bodies.Accept child.0.0 child.0.1 result.0, result.1)
body_at kinds.Refuse bytes = do
  child ← child_at bytes
  cause ← cause_at child.1
  Ok (bodies.Refuse child.0.0 child.0.1 cause.0, cause.1)
body_at kinds.Abort bytes = do
  child ← child_at bytes
  Ok (bodies.Abort child.0.0 child.0.1, child.1)
body_at kinds.Over bytes = Ok (bodies.Over, bytes)

-- a packet at the front of the bytes
unfoldable pub packet_at : List ℕ → Read Packet
packet_at bytes = do
  header ← header_at bytes
  body ← body_at header.0.kind header.1
  Ok (record { from = header.0.from; to = header.0.to; body = body.0 }, body.1)

-- the packet that all of the bytes are, or their first fault
unfoldable pub reading : List ℕ → Result Packet WireFault
reading bytes = do
  packet ← packet_at bytes
  if length packet.1 == 0 then Ok packet.0 else Err faults.Trailing

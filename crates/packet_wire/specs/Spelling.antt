-- The one spelling of each well-formed packet.
use Rattle.std.specs.Prelude.{ℕ, List, [], ◌++◌, length}
use Rattle.std.specs.List.{flat_map}
use Rattle.byteorder.specs.Endian.{big_bytes}
use Rattle.spawn_frame.specs.declared.cause.Cause.{Cause}
use Rattle.spawn_frame.specs.declared.cause.Cause.TheVariants.{Aborted, Superseded, Unknown}
use Rattle.spawn_frame.specs.declared.child_result.ChildResult.{ChildResult}
use Rattle.spawn_frame.specs.declared.child_result.ChildResult.TheVariants.{Cover, Empty}
use Rattle.spawn_frame.specs.declared.siblings.Sibling.{Sibling}
use Rattle.spawn_frame.specs.declared.site.Site.{Site}
use Rattle.packet_wire.specs.Kinds.{kind_number, kind_of, kind_version}
use Rattle.packet_wire.specs.declared.kind.Kind.{Kind}
use Rattle.packet_wire.specs.declared.packet.Body.{Body}
use Rattle.packet_wire.specs.declared.packet.Body.TheVariants as bodies
use Rattle.packet_wire.specs.declared.packet.Packet.{Packet}
use Rattle.packet_wire.specs.declared.writing.TheConstants.{MAGIC}

-- a number in so many bytes, the highest first
unfoldable pub number : ℕ → ℕ → List ℕ
number width n = big_bytes width n

-- numbers in so many bytes each, one after the other
abbrev pub numbers : ℕ → List ℕ → List ℕ
numbers width ns = flat_map (number width) ns

-- the magic, the version of the kind and its number there
abbrev pub start_text : Kind → List ℕ
start_text kind = number 2 MAGIC ++ (number 1 (kind_version kind) ++ number 1 (kind_number kind))

-- the node, and its incarnation
abbrev pub site_text : Site → List ℕ
site_text s = number 1 s.node ++ number 4 s.incarnation

-- the start, the sender and the receiver
abbrev pub header_text : Kind → Site → Site → List ℕ
header_text kind from to = start_text kind ++ (site_text from ++ site_text to)

-- the count, and the numbers
abbrev pub options_text : List ℕ → List ℕ
options_text options = number 2 (length options) ++ numbers 2 options

-- the count in one byte, and the incarnations
abbrev pub incarnations_text : List ℕ → List ℕ
incarnations_text incarnations = number 1 (length incarnations) ++ numbers 4 incarnations

-- the serial number, and the attempt
abbrev pub child_text : ℕ → ℕ → List ℕ
child_text serial attempt = number 4 serial ++ number 4 attempt

-- the serial number, the attempt and the option
abbrev pub sibling_text : Sibling → List ℕ
sibling_text s = number 4 s.serial ++ (number 4 s.attempt ++ number 2 s.option)

-- children of one parent, one after the other
abbrev pub siblings_text : List Sibling → List ℕ
siblings_text siblings = flat_map sibling_text siblings

-- the count in one byte, the prefix of the parent, and the children
abbrev pub give_many_text : List ℕ → List Sibling → List ℕ
give_many_text prefix siblings = number 1 (length siblings) ++ (options_text prefix ++ siblings_text siblings)

-- 0, or 1 and the options of the cover
abbrev pub result_text : ChildResult → List ℕ
result_text Empty = number 1 0
result_text (Cover options) = number 1 1 ++ options_text options

-- the number that stands for a cause
abbrev pub cause_number : Cause → ℕ
cause_number Aborted = 1
cause_number Superseded = 2
cause_number Unknown = 3

-- what stands behind the header
abbrev pub body_text : Body → List ℕ
body_text bodies.Hello = []
body_text (bodies.Members incarnations) = incarnations_text incarnations
body_text bodies.Steal = []
body_text (bodies.Give serial attempt prefix) = child_text serial attempt ++ options_text prefix
body_text (bodies.GiveMany prefix siblings) = give_many_text prefix siblings
body_text bodies.NoWork = []
body_text (bodies.Return serial attempt result) = child_text serial attempt ++ result_text result
body_text (bodies.Accept serial attempt result) = child_text serial attempt ++ result_text result
body_text (bodies.Refuse serial attempt cause) = child_text serial attempt ++ number 1 (cause_number cause)
body_text (bodies.Abort serial attempt) = child_text serial attempt
body_text bodies.Over = []

-- the bytes of a packet: its header, and its body
abbrev pub spelling : Packet → List ℕ
spelling p = header_text (kind_of p.body) p.from p.to ++ body_text p.body

-- One packet to each node, one node after another.
use Rattle.std.proofs.Common.{◌≡◌, ℕ, zero, suc, ◌+◌, ◌<◌, List, [], ◌∷◌, ◌++◌, length, take, sym, ap, ◌∙◌, subst, arith}
use Rattle.std.specs.Prelude.{slice_index}
use Rattle.node_core.proofs.Sending.{sends_more}
use Rattle.node_core.specs.Outgoing.{Outgoing, Sends}
use Rattle.packet_wire.specs.declared.packet.Body.{Body}
use Rattle.packet_wire.specs.declared.packet.Packet.{Packet}
use Rattle.root_registry.specs.RegistryStep.{to_each}
use Rattle.spawn_frame.specs.declared.site.Site.{Site}

-- the packet to one node more, of those from node n on
each_next : (from : Site) (body : Body) (n : ℕ) (incarnations : List ℕ) (i : ℕ) → i < length incarnations
    → to_each from body n (take (suc i) incarnations) ≡ to_each from body n (take i incarnations) ++ to_each from body (n + i) (slice_index incarnations i ∷ [])
each_next from body n [] i l = absurd (omega (arith, l))
each_next from body n (k ∷ ks) zero l =
    let same : n ≡ n + 0 = omega arith in
    ap (λ m. to_each from body m (k ∷ [])) same
each_next from body n (k ∷ ks) (suc i) l =
    let first : Packet = record { from = from; to = record { node = n; incarnation = k }; body = body } in
    let same : suc n + i ≡ n + suc i = omega arith in
    ap (λ ps. first ∷ ps)
    (each_next from body (suc n) ks i (omega (arith, l))
    ∙ ap (λ m. to_each from body (suc n) (take i ks) ++ to_each from body m (slice_index ks i ∷ [])) same)

-- the packets up to a place are sent, and that to the node at it
pub each_sent : (old mid new : Outgoing) (from : Site) (body : Body) (incarnations : List ℕ) (i node incarnation : ℕ) → i < length incarnations → node ≡ 1 + i → incarnation ≡ slice_index incarnations i
    → Sends old (to_each from body 1 (take i incarnations)) mid → Sends mid (to_each from body node (incarnation ∷ [])) new
    → Sends old (to_each from body 1 (take (i + 1) incarnations)) new
each_sent old mid new from body incarnations i node incarnation l at there before then =
    let P : List Packet → Type 0 = λ ps. Sends old ps new in
    let more : i + 1 ≡ suc i = omega arith in
    let all : to_each from body 1 (take (i + 1) incarnations) ≡ to_each from body 1 (take i incarnations) ++ to_each from body node (incarnation ∷ []) =
    ap (λ k. to_each from body 1 (take k incarnations)) more
    ∙ each_next from body 1 incarnations i l
    ∙ ap (λ m. to_each from body 1 (take i incarnations) ++ to_each from body m (slice_index incarnations i ∷ [])) (sym at)
    ∙ ap (λ r. to_each from body 1 (take i incarnations) ++ to_each from body node (r ∷ [])) (sym there)
    in
    subst P (sym all) (sends_more old mid new (to_each from body 1 (take i incarnations)) (to_each from body node (incarnation ∷ [])) before then)

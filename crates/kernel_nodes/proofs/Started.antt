-- The nodes of a setting at the start, and when nothing is under way.
use Rattle.std.proofs.Common.{◌≡◌, ◌⊎◌, inl, inr, ℕ, ◌+◌, zero, suc, List, [], ◌∷◌, ◌++◌, length, map, get_or, All, arith, ap, sym, ◌∙◌, refl, length-append}
use Rattle.std.proofs.lemmas.List.{map-append, length-map}
use Rattle.std.proofs.lemmas.List.Elements.{All-push, All-head, All-tail, All-cons, All-nil}
use Rattle.charlotte_packets.specs.declared.picture.Picture.{Picture}
use Rattle.charlotte_calls.specs.declared.setting.Setting.{Setting}
use Rattle.kernel_core.specs.State.{state_of}
use Rattle.kernel_step.specs.Start.{start_kernel}
use Rattle.kernel_world.specs.Run.{AllTaken}
use Rattle.kernel_world.specs.World.{start}
use Rattle.kernel_nodes.specs.Nodes.{sent_to, world_of, IsNodeOf}
use Rattle.kernel_nodes.specs.declared.node.Node.{Node}
use Rattle.kernel_nodes.proofs.Worlds.{state_at}
use Rattle.kernel_nodes.proofs.Sent.{Queues, sent_in, IsEmptyQueue, nothing_sent}

get_or-push : {X : Type 0} (ys : List X) (y d : X) (q : ℕ) → (q ≡ length ys → y ≡ d) → get_or (ys ++ y ∷ []) q d ≡ get_or ys q d
get_or-push [] y d zero same = same refl
get_or-push [] y d (suc q) same = refl
get_or-push (x ∷ xs) y d zero same = refl
get_or-push (x ∷ xs) y d (suc q) same = get_or-push xs y d q (λ e. same (ap suc e))

-- the nodes so far are those of a start
pub record IsStarting (s : Setting) (n : ℕ) (ns : List Node) : Type 0 where
  pub count : length ns ≡ n
  pub nodes : All (IsNodeOf s) ns
  pub world : world_of s ns ≡ start s

pub starting-none : (s : Setting) → IsStarting s 0 []
starting-none s = record { count = refl; nodes = All-nil (IsNodeOf s); world = refl }

pub starting-more : (s : Setting) (n : ℕ) (ns : List Node) (node : Node) → IsStarting s n ns → state_of node.kernel ≡ start_kernel s n → ((to : ℕ) → sent_to node to ≡ []) → IsNodeOf s node → IsStarting s (n + 1) (ns ++ node ∷ [])
starting-more s n ns node is state sent of =
    record {
      count = omega (arith, length-append ns (node ∷ []), is.count);
      nodes = All-push (IsNodeOf s) ns node is.nodes of;
      world = (λ j. record { kernel = λ q. kernel q j; packets = λ from to. packets from to j }) ∙ is.world;
    }
  where
    kernel : (q : ℕ) → (world_of s (ns ++ node ∷ [])).kernel q ≡ (world_of s ns).kernel q
    kernel q = ap (λ ks. get_or ks q (start_kernel s q)) (map-append state_at ns (node ∷ []))
        ∙ get_or-push (map state_at ns) (state_of node.kernel) (start_kernel s q) q (λ e. state ∙ ap (start_kernel s) (sym (e ∙ length-map ns state_at ∙ is.count)))

    packets : (from to : ℕ) → (world_of s (ns ++ node ∷ [])).packets from to ≡ (world_of s ns).packets from to
    packets from to = ap (λ (fs : List (ℕ → List Picture)). get_or fs from (λ _. []) to) (map-append sent_to ns (node ∷ []))
        ∙ ap (λ (f : ℕ → List Picture). f to) (get_or-push (map sent_to ns) (sent_to node) (λ _. []) from (λ _ j t. sent t j))

-- ---- quiet

abbrev pub IsQuietNode : Node → Type 0
IsQuietNode node = All IsEmptyQueue node.sent.items

pub all-taken : (s : Setting) (ns : List Node) → All IsQuietNode ns → AllTaken (world_of s ns)
all-taken s [] all from to = refl
all-taken s (n ∷ ns) all zero to = nothing_sent n.sent.items (All-head IsQuietNode n ns all) to
all-taken s (n ∷ ns) all (suc from) to = all-taken s ns (All-tail IsQuietNode n ns all) from to

empty-queues : (queues : Queues) → ((to : ℕ) → sent_in queues to ≡ []) → All IsEmptyQueue queues
empty-queues [] none = All-nil IsEmptyQueue
empty-queues (x ∷ xs) none = All-cons IsEmptyQueue x xs (none 0) (empty-queues xs (λ to. none (suc to)))

pub all-quiet : (ns : List Node) → ((from to : ℕ) → get_or (map sent_to ns) from (λ _. []) to ≡ []) → All IsQuietNode ns
all-quiet [] none = All-nil IsQuietNode
all-quiet (n ∷ ns) none = All-cons IsQuietNode n ns (empty-queues n.sent.items (none 0)) (all-quiet ns (λ from. none (suc from)))

-- ---- either way

all-or-not : {X : Type 0} (P : X → Type 0) → ((x : X) → P x ⊎ (P x → ⊥)) → (xs : List X) → All P xs ⊎ (All P xs → ⊥)
all-or-not P or_not [] = inl (All-nil P)
all-or-not P or_not (x ∷ xs) = elim (or_not x) [
  | inl is ↦ elim (all-or-not P or_not xs) [ inl all ↦ inl (All-cons P x xs is all) | inr other ↦ inr (λ all. other (All-tail P x xs all)) ]
  | inr other ↦ inr (λ all. other (All-head P x xs all))
]

empty-or-not : {X : Type 0} (xs : List X) → (xs ≡ []) ⊎ (xs ≡ [] → ⊥)
empty-or-not [] = inl refl
empty-or-not (x ∷ xs) = inr (λ e. absurd (cc))

-- packets are under way, or none is
pub quiet-or-not : (s : Setting) (ns : List Node) → AllTaken (world_of s ns) ⊎ (AllTaken (world_of s ns) → ⊥)
quiet-or-not s ns = elim (all-or-not IsQuietNode (λ n. all-or-not IsEmptyQueue empty-or-not n.sent.items) ns) [
  | inl all ↦ inl (all-taken s ns all)
  | inr other ↦ inr (λ taken. other (all-quiet ns taken))
]

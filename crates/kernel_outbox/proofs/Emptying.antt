-- An outbox without letters.
use Rattle.std.proofs.Common.{◌≡◌, ℕ, zero, suc, List, [], ◌∷◌, ◌++◌, All, ap, ◌∙◌, sym, refl}
use Rattle.std.proofs.lemmas.List.Elements.{All-cons, All-head, All-nil, All-tail}
use Rattle.charlotte_packets.specs.declared.packet.Packet.{Packet}
use Rattle.kernel_net.specs.declared.letter.Letter.{Letter}
use Rattle.kernel_net.specs.declared.letter.Letter.TheVariants as letter
use Rattle.kernel_outbox.specs.Letters.{if_to, letters_for, outbox_to, waiting_to}
use Rattle.kernel_outbox.specs.declared.outbox.Outbox.{Outbox}
use Rattle.kernel_outbox.proofs.Waiting.{Lists, if_to-same, same-number, waits_in}

-- lists without letters, seen from each kernel
empty-waits : (lists : Lists) → All (λ list. list.items ≡ []) lists → (to : ℕ) → waits_in lists to ≡ []
empty-waits [] none to = refl
empty-waits (x ∷ xs) none zero = All-head (λ list. list.items ≡ []) x xs none
empty-waits (x ∷ xs) none (suc to) = empty-waits xs (All-tail (λ list. list.items ≡ []) x xs none) to

waits-empty : (lists : Lists) → ((to : ℕ) → waits_in lists to ≡ []) → All (λ list. list.items ≡ []) lists
waits-empty [] none = All-nil (λ list. list.items ≡ [])
waits-empty (x ∷ xs) none = All-cons (λ list. list.items ≡ []) x xs (none zero) (waits-empty xs (λ to. none (suc to)))

-- what is empty as a whole is so in its parts
front-empty : (xs ys : List Letter) → xs ++ ys ≡ [] → xs ≡ []
front-empty [] ys e = refl
front-empty (x ∷ xs) ys e = cc

back-empty : (xs ys : List Letter) → xs ++ ys ≡ [] → ys ≡ []
back-empty [] ys e = e
back-empty (x ∷ xs) ys e = cc

-- the first of packets goes to some kernel
none-unsent : (sent : List (ℕ × Packet)) → ((to : ℕ) → letters_for to sent ≡ []) → sent ≡ []
none-unsent [] none = refl
none-unsent (x ∷ xs) none =
    let here : letter.Packet x.1 ∷ [] ≡ [] = sym (if_to-same x.0 x.0 (letter.Packet x.1) (same-number x.0)) ∙ front-empty (if_to x.0 x.0 (letter.Packet x.1)) (letters_for x.0 xs) (none x.0) in
    cc

pub empty-out : (o : Outbox) → o.unsent.items ≡ [] → All (λ list. list.items ≡ []) o.waiting.items → (to : ℕ) → outbox_to o to ≡ []
empty-out o unsent waiting to = ap (λ ls. ls ++ letters_for to o.unsent.items) (empty-waits o.waiting.items waiting to) ∙ ap (letters_for to) unsent

pub none-waits : (o : Outbox) → ((to : ℕ) → outbox_to o to ≡ []) → All (λ list. list.items ≡ []) o.waiting.items
none-waits o none = waits-empty o.waiting.items (λ to. front-empty (waiting_to o to) (letters_for to o.unsent.items) (none to))

pub nothing-unsent : (o : Outbox) → ((to : ℕ) → outbox_to o to ≡ []) → o.unsent.items ≡ []
nothing-unsent o none = none-unsent o.unsent.items (λ to. back-empty (waiting_to o to) (letters_for to o.unsent.items) (none to))

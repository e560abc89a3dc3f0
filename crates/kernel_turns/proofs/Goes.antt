-- What turns make of a node: it is so of no turn, of one, and of one behind the other.
use Rattle.std.proofs.Common.{◌≡◌, Bool, false, is_err, Result, Ok, Err, IfOk, OnOk, OnErr, List, [], ◌++◌, All, length, refl, sym, subst, ◌∙◌, append-nil, append_assoc}
use Rattle.kernel_entries.specs.Ranges.{IsEntryInRange}
use Rattle.kernel_entries.specs.declared.entry.Entry.{Entry}
use Rattle.kernel_net.specs.Ports.{place_of}
use Rattle.kernel_turns.proofs.Turned.{node-spoiled, node-turned}
use Rattle.kernel_turns.specs.Amid.{IsSomeNode, SameRun}
use Rattle.kernel_turns.specs.Goes.{Goes}
use Rattle.kernel_turns.specs.Nodes.{IsNode, Meaning}
use Rattle.kernel_turns.specs.Turns.{IsTurn}
use Rattle.kernel_turns.specs.declared.node.Node.{Node}
use Rattle.kernel_turns.specs.declared.node.Turn.{Turn}

module _ {P S W V : Type 0} (m : Meaning P S) (HasSeen : W → List Entry → Type 0) (made_with : W → V) where
  pub goes-none : (n : Node P W) → Goes m HasSeen made_with n n
  goes-none n =
      record {
        node = λ s k first made valid node. ([], subst (λ es. IsNode m HasSeen s k first es n) (sym (append-nil made)) node);
        place = refl;
        orders = refl;
        count = refl;
        watch = refl;
      }

  pub goes-both : (old mid new : Node P W) → Goes m HasSeen made_with old mid → Goes m HasSeen made_with mid new → Goes m HasSeen made_with old new
  goes-both old mid new one two =
      record {
        node = λ s k first made valid node.
            let here = one.node s k first made valid node in
            let there = two.node s k first (made ++ here.0) valid here.1 in
            (here.0 ++ there.0, subst (λ es. IsNode m HasSeen s k first es new) (append_assoc made here.0 there.0) there.1);
        place = two.place ∙ one.place;
        orders = two.orders ∙ one.orders;
        count = two.count ∙ one.count;
        watch = two.watch ∙ one.watch;
      }

  -- it is some node still
  pub goes-some : (old new : Node P W) → Goes m HasSeen made_with old new → IsSomeNode m HasSeen old → IsSomeNode m HasSeen new
  goes-some old new goes one =
      let on = goes.node one.setting one.kernel one.first one.made one.valid one.node in
      record { setting = one.setting; kernel = one.kernel; first = one.first; made = one.made ++ on.0; valid = one.valid; node = on.1 }

  -- one turn, after which it is spoiled where memory was wanting
  pub goes-turned : {E : Type 0} (r : Result Turn E) (spoils : Bool) (old mid : Node P W) → spoils ≡ is_err r → IfOk r (λ t. IsTurn m t old mid) → OnOk r (All IsEntryInRange mid.base.journal.entries)
      → OnOk r (HasSeen mid.watch mid.base.journal.entries) → OnErr r (SameRun old.base mid.base) → old.spoiled ≡ false → mid.spoiled ≡ false → place_of mid.base.port ≡ place_of old.base.port
      → mid.base.orders ≡ old.base.orders → length mid.programs.all.items ≡ length old.programs.all.items → made_with mid.watch ≡ made_with old.watch
      → Goes m HasSeen made_with old (record mid { spoiled = spoils })
  goes-turned (Ok t) spoils old mid is turned range seen same whole still place orders count watch =
      record {
        node = λ s k first made valid node.
            let on = node-turned m s k first HasSeen made t old mid valid turned whole seen range node in
            (on.0, subst (λ b. IsNode m HasSeen s k first (made ++ on.0) (record mid { spoiled = b })) (still ∙ sym is) on.1);
        place = place;
        orders = orders;
        count = count;
        watch = watch;
      }
  goes-turned (Err e) spoils old mid is turned range seen same whole still place orders count watch =
      record {
        node = λ s k first made valid node. (
          [],
          subst (λ es. IsNode m HasSeen s k first es (record mid { spoiled = spoils })) (sym (append-nil made))
              (node-spoiled m s k first HasSeen made old (record mid { spoiled = spoils }) same is node),
        );
        place = place;
        orders = orders;
        count = count;
        watch = watch;
      }

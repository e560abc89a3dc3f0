-- What is known of a ring whose ends are brought together.
use Rattle.std.proofs.Common.{◌≡◌, ◌+◌, List, [], ◌∷◌, ◌++◌, length, ap, ◌∙◌, append-nil, arith, length-append, subst}
use Rattle.std.specs.declared.alloc.Global.{Global}
use Rattle.rtrb.specs.Ends.{SameRing}
use Rattle.rtrb.specs.Ring.{sent, known_free, producer_capacity, received, known_items, ProducerLooked, ConsumerLooked, SameConsumer}
use Rattle.rtrb.specs.declared.producer.Producer.{Producer}
use Rattle.rtrb.specs.declared.consumer.Consumer.{Consumer}
use Rattle.rtrb.specs.declared.end.End.{End}
use Rattle.kernel_net.specs.Letters.{MayBePut}
use Rattle.kernel_net.specs.Rings.{ring_of, outlet_of, inlet_of, Gets, Inlet, Looks}
use Rattle.kernel_net.specs.declared.letter.Letter.{Letter}
use Rattle.kernel_net.specs.declared.letter.LetterRule.{LetterRule}
use Rattle.kernel_net.proofs.Lists.{prefix-trans}

abbrev Putting : Type 0
Putting = Producer Letter Global LetterRule

abbrev Getting : Type 0
Getting = Consumer Letter Global LetterRule

same-ring : (a b : End Letter Global LetterRule) → SameRing a b → ring_of b ≡ ring_of a
same-ring a b same j = record { words = same.0 j; slots = same.1 j; names = same.2 j; heap = same.3 j }

-- the first letter that is known was got of the end that shows so
pub gets-known : (c c' : Getting) (i : Inlet) (letter : Letter) → inlet_of c ≡ i → SameConsumer c c' → received c' ≡ received c ++ letter ∷ [] → known_items c ≡ letter ∷ known_items c' → MayBePut (received c) letter → Gets letter i (inlet_of c')
gets-known c c' i letter shows same got known allowed =
    subst (λ (j : Inlet). Gets letter j (inlet_of c')) shows (record {
      ring = same-ring c.end c'.end same.0;
      got = got;
      known = ([], append-nil (known_items c) ∙ known);
      allowed = allowed;
    })

pub looks : (p p1 p2 : Putting) (c c1 c2 : Getting) → ProducerLooked p p1 → ConsumerLooked c c1
    → known_free p1 + length (sent p1) ≡ producer_capacity p1 + length (received c1) → ConsumerLooked c1 c2 → ProducerLooked p1 p2
    → received c2 ++ known_items c2 ≡ sent p2 → Looks (outlet_of p) (outlet_of p2) (inlet_of c) (inlet_of c2)
looks p p1 p2 c c1 c2 ps cs free ct pt there =
    record {
      outlet = same-ring p1.end p2.end pt.0.0 ∙ same-ring p.end p1.end ps.0.0;
      inlet = same-ring c1.end c2.end ct.0.0 ∙ same-ring c.end c1.end cs.0.0;
      put = pt.1 ∙ ps.1;
      got = ct.1 ∙ cs.1;
      places = omega (arith, ps.2, pt.2);
      known = prefix-trans _ _ _ cs.2 ct.2;
      there = there;
      room = omega (arith, free, pt.2, ps.0.1, p.writes.2, ap length there, ap length pt.1, ap length ct.1, length-append (received c2) (known_items c2));
    }

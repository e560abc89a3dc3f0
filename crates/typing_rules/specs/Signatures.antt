-- The signature of an op, and the widest packets of its requests and replies.
use Rattle.std.specs.Prelude.{ℕ, ◌+◌, ◌*◌, List, [], ◌∷◌, ◌++◌, length, codes, nat_abs}
use Rattle.std.specs.List.{flat_map, sum_by, count_by}
use Rattle.std.specs.Fmt.{signed_decimal}
use Rattle.lynx_tree.specs.declared.declaration.TypeName.{TypeName}
use Rattle.lynx_tree.specs.declared.declaration.TypeName.TheVariants as types
use Rattle.lynx_tree.specs.Trees.{OpTree}
use Rattle.typing_rules.specs.Types.{is_link}

-- a type's spelling without blanks, as `row16`
abbrev pub type_text : TypeName → List ℕ
type_text types.Int = codes "int"
type_text types.Bool = codes "bool"
type_text types.Text = codes "text"
type_text types.Link = codes "link"
type_text (types.Row n) = codes "row" ++ signed_decimal n

-- types, each behind a comma
abbrev pub more_types_text : List TypeName → List ℕ
more_types_text ts = flat_map (λ t. codes "," ++ type_text t) ts

-- types joined by commas
abbrev pub types_text : List TypeName → List ℕ
types_text [] = []
types_text (t ∷ ts) = type_text t ++ more_types_text ts

-- the signature, as `add(int,int):(int)`
abbrev pub signature_text : OpTree → List ℕ
signature_text op = op.name ++ codes "(" ++ types_text op.arguments ++ codes "):(" ++ types_text op.results ++ codes ")"

-- the bytes of a type's widest value in a packet
abbrev pub widest : TypeName → ℕ
widest types.Int = 9
widest types.Bool = 2
widest types.Text = 66
widest types.Link = 1
widest (types.Row n) = 2 + 8 * nat_abs n

-- the bytes of the widest request and of the widest reply: 6, the signature's in a request, and those of the values
abbrev pub widest_request : OpTree → ℕ
widest_request op = 6 + length (signature_text op) + sum_by widest op.arguments

abbrev pub widest_reply : OpTree → ℕ
widest_reply op = 6 + sum_by widest op.results

-- how many of the types are links
abbrev pub links_among : List TypeName → ℕ
links_among ts = count_by is_link ts

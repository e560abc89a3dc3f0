-- Types, and what is known of an expression's type.
use Rattle.std.specs.Prelude.{Bool, true, false, ◌&&◌, nat_le, ℤ, pos, negsuc, Option, None, Some}
use Rattle.std.specs.Ordering.{int_eq}
use Rattle.lynx_tree.specs.declared.declaration.TypeName.{TypeName}
use Rattle.lynx_tree.specs.declared.declaration.TypeName.TheVariants as types

abbrev pub is_int : TypeName → Bool
is_int types.Int = true
is_int _ = false

abbrev pub is_bool : TypeName → Bool
is_bool types.Bool = true
is_bool _ = false

abbrev pub is_text : TypeName → Bool
is_text types.Text = true
is_text _ = false

abbrev pub is_link : TypeName → Bool
is_link types.Link = true
is_link _ = false

abbrev pub is_row : TypeName → Bool
is_row (types.Row n) = true
is_row _ = false

abbrev pub is_row_of : ℤ → TypeName → Bool
is_row_of n (types.Row m) = int_eq n m
is_row_of n _ = false

-- two row types are the same where their lengths are
abbrev pub same_type : TypeName → TypeName → Bool
same_type types.Int t = is_int t
same_type types.Bool t = is_bool t
same_type types.Text t = is_text t
same_type types.Link t = is_link t
same_type (types.Row n) t = is_row_of n t

-- the type of an expression, and None where a fault is inside it: then it is held to have the type that its place needs
abbrev pub Held : Type 0
Held = Option TypeName

-- the two may be of one type
abbrev pub agree : Held → Held → Bool
agree None t = true
agree (Some s) None = true
agree (Some s) (Some t) = same_type s t

abbrev pub fits : TypeName → Held → Bool
fits t held = agree (Some t) held

-- no value of it is written or compared
abbrev pub is_row_or_link : Held → Bool
is_row_or_link None = false
is_row_or_link (Some types.Int) = false
is_row_or_link (Some types.Bool) = false
is_row_or_link (Some types.Text) = false
is_row_or_link (Some types.Link) = true
is_row_or_link (Some (types.Row n)) = true

-- it may be indexed
abbrev pub may_be_row : Held → Bool
may_be_row None = true
may_be_row (Some t) = is_row t

-- a length that a row may have
abbrev pub is_length : ℤ → Bool
is_length (pos n) = nat_le 1 n && nat_le n 16
is_length (negsuc n) = false

abbrev pub has_length : TypeName → Bool
has_length types.Int = true
has_length types.Bool = true
has_length types.Text = true
has_length types.Link = true
has_length (types.Row n) = is_length n

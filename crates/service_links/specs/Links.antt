-- The table of all ends, from the rows where they are kept: one for each maker, with the ends of its links by number.
use Rattle.std.specs.Prelude.{ℕ, nat_eq, if◌then◌else◌, List, [], slice_index_or, slice_set}
use Rattle.charlotte_calls.specs.declared.names.EndId.{EndId}
use Rattle.charlotte_calls.specs.declared.names.Side.{Side}
use Rattle.charlotte_calls.specs.declared.names.Side.TheVariants.{A, B}
use Rattle.service_step.specs.Ends.{unmade}
use Rattle.service_step.specs.declared.state.End.{End}

-- the end of a link on a side
abbrev pub end_on : Side → End × End → End
end_on A ends = ends.0
end_on B ends = ends.1

-- the end on a side becomes what f makes of it
abbrev pub turns_side : Side → (End → End) → End × End → End × End
turns_side A f ends = (f ends.0, ends.1)
turns_side B f ends = (ends.0, f ends.1)

-- a link that was not made
abbrev pub no_link : End × End
no_link = (unmade, unmade)

-- the ends of a link of a row, by its number; one without a place was not made
abbrev pub link_at : List (End × End) → ℕ → End × End
link_at row number = slice_index_or row number no_link

-- an end of a row becomes what f makes of it
abbrev pub turns_end : ℕ → Side → (End → End) → List (End × End) → List (End × End)
turns_end number side f row = slice_set row number (turns_side side f (link_at row number))

-- the link with this number has these ends
abbrev pub puts_link : ℕ → End × End → (ℕ → End × End) → (ℕ → End × End)
puts_link number ends row = λ q. if nat_eq number q then ends else row q

-- the row of a maker
abbrev pub row_of : List (List (End × End)) → ℕ → List (End × End)
row_of rows maker = slice_index_or rows maker []

-- an end becomes what f makes of it, where it has a place
abbrev pub turns_kept : EndId → (End → End) → List (List (End × End)) → List (List (End × End))
turns_kept e f rows = slice_set rows e.link.maker (turns_end e.link.count e.side f (row_of rows e.link.maker))

-- what an end is
unfoldable pub ends_of : List (List (End × End)) → EndId → End
ends_of rows e = end_on e.side (link_at (row_of rows e.link.maker) e.link.count)

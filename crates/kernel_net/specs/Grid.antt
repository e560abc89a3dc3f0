-- All rings of a net while it is made: the rows of those who put, one for each kernel
-- that has rings to all, and the lists of those who get. Private clauses alone cite it.
use Rattle.std.specs.Prelude.{◌≡◌, ◌<◌, ℕ, List, [], ◌∷◌, ◌++◌, All, length, map, take, drop, slice_index_or}
use Rattle.std.specs.Global.{Vec}
use Rattle.kernel_net.specs.Rings.{Ring, Outlet, Inlet, capacity_of}
use Rattle.kernel_net.specs.Ports.{PortView}

abbrev pub putters_of : List (Vec Outlet) → List (List Outlet)
putters_of outs = map (λ v. v.items) outs

abbrev pub getters_of : List (Vec Inlet) → List (List Inlet)
getters_of intos = map (λ v. v.items) intos

-- nothing was put into the ring, and it has room for so many letters
pub record IsFreshOutlet (most : ℕ) (o : Outlet) : Type 0 where
  pub put : o.put ≡ []
  pub places : o.places ≡ most
  pub room : capacity_of o.ring ≡ most

-- the end of a ring that has got nothing
abbrev pub fresh_inlet : Ring → Inlet
fresh_inlet r = record { ring = r; got = []; known = [] }

-- the end of the ring with this number in the row, if it is there
abbrev pub inlets_at : ℕ → List Outlet → List Inlet
inlets_at k row = map (λ o. fresh_inlet o.ring) (take 1 (drop k row))

-- the ends of the rings with this number in the rows
abbrev pub column : ℕ → List (List Outlet) → List Inlet
column k [] = []
column k (row ∷ rows) = inlets_at k row ++ column k rows

-- a row was made: each list has its end of the ring with the list's number behind it
pub record IsRow (capacity : ℕ) (count : ℕ) (row : List Outlet) (old new : List (List Inlet)) : Type 0 where
  pub putters : length row ≡ count
  pub fresh : All (IsFreshOutlet capacity) row
  pub getters : length new ≡ length old
  pub gained : (k : ℕ) → slice_index_or new k [] ≡ slice_index_or old k [] ++ inlets_at k row

-- of a net of so many kernels the first rows were made
pub record IsGrid (capacity : ℕ) (kernels : ℕ) (count : ℕ) (rows : List (List Outlet)) (lists : List (List Inlet)) : Type 0 where
  pub putters : length rows ≡ count
  pub whole : All (λ row. length row ≡ kernels) rows
  pub fresh : All (All (IsFreshOutlet capacity)) rows
  pub getters : length lists ≡ kernels
  pub columns : (k : ℕ) → slice_index_or lists k [] ≡ column k rows

-- the ports have the rows and the lists, by their numbers
pub record ArePorts (count : ℕ) (ports : List PortView) (rows : List (List Outlet)) (lists : List (List Inlet)) : Type 0 where
  pub number : length ports ≡ count
  pub port : (k : ℕ) (d : PortView) → k < count
      → slice_index_or ports k d ≡ record { kernel = k; out = slice_index_or rows k []; into = slice_index_or lists k [] }

-- A walk that gathers the rows of a resource: what is gathered and what is left give the whole, at each turn.
use Rattle.std.proofs.Common.{◌≡◌, ℕ, ◌+◌, ◌<◌, ◌≤◌, true, false, cond, eqb, List, [], ◌∷◌, ◌++◌, length, take, drop, set, sym, ◌∙◌, append_assoc, arith}
use Rattle.std.proofs.lemmas.List.{drop_more, drop_all, take_more_set, append-nil}
use Rattle.service.specs.declared.Record.{Record}
use Rattle.items.specs.declared.Item.{Item}
use Rattle.items.specs.Items.{no_item, item_at}
use Rattle.tables.specs.Demands.{Span, nowhere, span, row_of, rows_on}

module _ (bits : List ℕ) (all : List Item) (r : ℕ) (xs : List Item) (ws : List Span) (size : length ws ≡ length xs) where
  -- the rows of the items from a place on
  abbrev pub rows_from : ℕ → List Record
  rows_from i = rows_on bits all r (drop i xs) (drop i ws)

  rest : (i : ℕ) → i < length xs → rows_from i ≡ cond (eqb (item_at xs i).resource r) (row_of bits all (item_at xs i) (span ws i) ∷ rows_from (i + 1)) (rows_from (i + 1))
  rest i h =
      let also : i < length ws = omega arith in
      rw (drop_more xs i no_item h, drop_more ws i nowhere also)

  pub gathered : (i n : ℕ) (rs : List Record) (v : Record) → i < length xs → n < length rs → eqb (item_at xs i).resource r ≡ true → v ≡ row_of bits all (item_at xs i) (span ws i)
      → take (n + 1) (set rs n v) ++ rows_from (i + 1) ≡ take n rs ++ rows_from i
  gathered i n rs v h room on e =
      let here : rows_from i ≡ v ∷ rows_from (i + 1) = rest i h ∙ rw (on, e) in
      rw (here, take_more_set rs n v room, append_assoc (take n rs) (v ∷ []) (rows_from (i + 1)))

  pub passed : (i : ℕ) → i < length xs → eqb (item_at xs i).resource r ≡ false → rows_from (i + 1) ≡ rows_from i
  passed i h off = sym (rest i h ∙ rw off)

  pub ended : (i : ℕ) (rs : List Record) → length xs ≤ i → rs ++ rows_from i ≡ rs
  ended i rs le = rw (drop_all i xs le, append-nil rs)

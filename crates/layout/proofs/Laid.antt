-- What a reader finds in the file of a plan: just the plan.
use Rattle.std.proofs.Common.{◌≡◌, ℕ, zero, suc, ◌+◌, ◌*◌, ◌^◌, ◌<◌, ◌≤◌, false, not, ◌&&◌, eqb, ltb, leb, List, ◌++◌, length, take, is_some, None, sym, refl, ap, ◌∙◌, subst, ⊎_elim, arith, length-append}
use Rattle.std.proofs.lemmas.List.FromFn.{fill_by_all}
use Rattle.std.proofs.lemmas.Bool.{or_from, and_left, and_right, not_from_true, not_from_false, le-ltb, lt-leb, eq-eqb, ne_eqb, cond-false, cases_eq}
use Rattle.std.specs.List.{flat_map}
use Rattle.items.specs.declared.Item.{Item}
use Rattle.items.specs.declared.Work.{Work}
use Rattle.items.specs.declared.Work.TheVariants.{Task, Frame}
use Rattle.items.specs.Items.{no_item, item_at}
use Rattle.items.specs.Conditions.{bit_time_of, outside, some_above, place_refusal}
use Rattle.items.specs.Valid.{Valid, ValidItem, ValidWork}
use Rattle.items.proofs.Accepted.{not_outside, not_above}
use Rattle.items.proofs.Members.{in_at, members}
use Rattle.items.proofs.Rebuilt.{accepted_next}
use Rattle.layout.specs.Bytes.{laid, part, word}
use Rattle.layout.specs.Format.{first_word, second_word, first_record, second_record, file_of, size_of}
use Rattle.layout.specs.Reading.{resources_in, items_in, bits_of, first_at, second_at, resource_in, on_bus, work_by, item_in, items_of, head_fault, descends, has_spare, bad_record}
use Rattle.layout.proofs.Bytes.{part_part, word_of, part_front, part_behind, part_within}
use Rattle.layout.proofs.Arrays.{length_joined, part_joined}

-- the words of work say it
work_is : (bit : ℕ) (w : Work) → ValidWork bit w → work_by (not (eqb bit 0)) (first_word w) (second_word w) ≡ w
work_is bit (Task low high) fits = ap (λ b. work_by b low high) (not_from_true (eqb bit 0) (eq-eqb bit 0 fits.0))
work_is bit (Frame bytes) fits = ap (λ b. work_by b bytes 0) (not_from_false (eqb bit 0) (ne_eqb bit 0 (λ zero. omega (arith, fits.0))))

first_fits : (bit : ℕ) (w : Work) → ValidWork bit w → first_word w < 256 ^ 4
first_fits bit (Task low high) fits = omega (arith, fits.2, fits.3)
first_fits bit (Frame bytes) fits = omega (arith, fits.1)

second_fits : (bit : ℕ) (w : Work) → ValidWork bit w → second_word w < 256 ^ 4
second_fits bit (Task low high) fits = omega (arith, fits.3)
second_fits bit (Frame bytes) fits = omega arith

-- a frame has no second word
spare_none : (bit : ℕ) (w : Work) → ValidWork bit w → (not (eqb bit 0) && not (eqb (second_word w) 0)) ≡ false
spare_none bit (Task low high) fits = and_left (not (eqb bit 0)) (not (eqb high 0)) (not_from_true (eqb bit 0) (eq-eqb bit 0 fits.0))
spare_none bit (Frame bytes) fits = and_right (not (eqb bit 0)) (not (eqb 0 0)) refl

timing_fits : (bits : List ℕ) (x : Item) → ValidItem bits x → (x.period ≤ 10000000) × (x.delay ≤ 10000000)
timing_fits bits x valid =
    ⊎_elim
    (λ head. let fits = valid.head head in (fits.1, fits.2))
    (λ ne. let fits = valid.other ne in (omega (arith, fits.0), omega (arith, fits.1)))
    (cases_eq x.predecessor 0)

module _ (bits : List ℕ) (xs : List Item) (valid : Valid bits xs) where
  abbrev b : List ℕ
  b = file_of bits xs

  -- behind the two sizes, and behind the bit times
  behind_sizes : (at m : ℕ) → part (4 + at) m b ≡ part at m (bits ++ (flat_map first_record xs ++ flat_map second_record xs))
  behind_sizes at m =
      let here : 4 + at ≡ 2 + (2 + at) = omega arith in
      ap (λ k. part k m b) here ∙ part_behind 2 (2 + at) m (laid 2 (length bits)) _ refl ∙ part_behind 2 at m (laid 2 (length xs)) _ refl

  behind_bits : (at m : ℕ) → part (4 + length bits + at) m b ≡ part at m (flat_map first_record xs ++ flat_map second_record xs)
  behind_bits at m =
      let here : 4 + length bits + at ≡ 4 + (length bits + at) = omega arith in
      ap (λ k. part k m b) here ∙ behind_sizes (length bits + at) m ∙ part_behind (length bits) at m bits _ refl

  resources_is : resources_in b ≡ length bits
  resources_is =
      let fits : length bits < 256 ^ 2 = omega (arith, valid.resources_high) in
      word_of b 0 2 (length bits) fits refl

  items_is : items_in b ≡ length xs
  items_is =
      let fits : length xs < 256 ^ 2 = omega (arith, valid.size) in
      word_of b 2 2 (length xs) fits refl

  pub bits_is : bits_of b ≡ bits
  bits_is = ap (λ k. part 4 k b) resources_is ∙ behind_sizes 0 (length bits) ∙ part_front (length bits) bits _ refl

  module _ (k : ℕ) (within : k < length xs) where
    abbrev x : Item
    x = item_at xs k

    item_valid : ValidItem bits x
    item_valid = valid.each k within

    -- the two records of the item
    first_is : part (first_at b k) 8 b ≡ first_record x
    first_is =
        let long : length (flat_map first_record xs) ≡ 8 * length xs = length_joined first_record 8 (λ y. refl) xs in
        let room : 8 * k + 8 ≤ length (flat_map first_record xs) = omega arith in
        ap (λ r. part (4 + r + 8 * k) 8 b) resources_is
        ∙ behind_bits (8 * k) 8
        ∙ part_within (8 * k) 8 (flat_map first_record xs) (flat_map second_record xs) room
        ∙ part_joined first_record 8 (λ y. refl) xs no_item k within

    second_is : part (second_at b k) 16 b ≡ second_record x
    second_is =
        let long : length (flat_map first_record xs) ≡ 8 * length xs = length_joined first_record 8 (λ y. refl) xs in
        let here : 4 + length bits + 8 * length xs + 16 * k ≡ 4 + length bits + (8 * length xs + 16 * k) = omega arith in
        (λ i. part (4 + resources_is i + 8 * items_is i + 16 * k) 16 b)
        ∙ ap (λ at. part at 16 b) here
        ∙ behind_bits (8 * length xs + 16 * k) 16
        ∙ part_behind (8 * length xs) (16 * k) 16 (flat_map first_record xs) (flat_map second_record xs) long
        ∙ part_joined second_record 16 (λ y. refl) xs no_item k within

    -- a word of a record, by its place there
    word_is : (from size : ℕ) (bytes : List ℕ) → part from size b ≡ bytes → (width j m : ℕ) → j + width ≤ size → m < 256 ^ width → part j width bytes ≡ laid width m → word width b (from + j) ≡ m
    word_is from size bytes there width j m inside fits is = word_of b (from + j) width m fits (sym (part_part b from size j width inside) ∙ ap (part j width) there ∙ is)

    short_is : (j m : ℕ) → j + 2 ≤ 8 → m < 256 ^ 2 → part j 2 (first_record x) ≡ laid 2 m → word 2 b (first_at b k + j) ≡ m
    short_is = word_is (first_at b k) 8 (first_record x) first_is 2

    long_is : (j m : ℕ) → j + 4 ≤ 16 → m < 256 ^ 4 → part j 4 (second_record x) ≡ laid 4 m → word 4 b (second_at b k + j) ≡ m
    long_is = word_is (second_at b k) 16 (second_record x) second_is 4

    number_is : word 2 b (first_at b k) ≡ x.number
    number_is =
        let here : first_at b k + 0 ≡ first_at b k = omega arith in
        ap (word 2 b) (sym here) ∙ short_is 0 x.number (omega arith) (omega (arith, item_valid.number_high)) refl

    resource_is : resource_in b k ≡ x.resource
    resource_is = short_is 2 x.resource (omega arith) (omega (arith, item_valid.resource_high, valid.resources_high)) refl

    priority_is : word 2 b (first_at b k + 4) ≡ x.priority
    priority_is = short_is 4 x.priority (omega arith) (omega (arith, item_valid.priority_high)) refl

    predecessor_is : word 2 b (first_at b k + 6) ≡ x.predecessor
    predecessor_is = short_is 6 x.predecessor (omega arith) low refl
      where
        low : x.predecessor < 256 ^ 2
        low =
            ⊎_elim
            (λ head. omega arith)
            (λ ne. omega (arith, ((members bits xs valid).linked x (in_at xs k within) ne).0, item_valid.number_high))
            (cases_eq x.predecessor 0)

    least_is : word 4 b (second_at b k) ≡ first_word x.work
    least_is =
        let here : second_at b k + 0 ≡ second_at b k = omega arith in
        ap (word 4 b) (sym here) ∙ long_is 0 (first_word x.work) (omega arith) (first_fits _ x.work item_valid.work) refl

    greatest_is : word 4 b (second_at b k + 4) ≡ second_word x.work
    greatest_is = long_is 4 (second_word x.work) (omega arith) (second_fits _ x.work item_valid.work) refl

    period_is : word 4 b (second_at b k + 8) ≡ x.period
    period_is = let fits = timing_fits bits x item_valid in long_is 8 x.period (omega arith) (omega arith) refl

    delay_is : word 4 b (second_at b k + 12) ≡ x.delay
    delay_is = let fits = timing_fits bits x item_valid in long_is 12 x.delay (omega arith) (omega arith) refl

    bus_is : on_bus b k ≡ not (eqb (bit_time_of bits x.resource) 0)
    bus_is = λ i. not (eqb (bit_time_of (bits_is i) (resource_is i)) 0)

    pub item_is : item_in b k ≡ x
    item_is =
        (λ i. record {
          number = number_is i;
          resource = resource_is i;
          priority = priority_is i;
          work = work_by (bus_is i) (least_is i) (greatest_is i);
          predecessor = predecessor_is i;
          period = period_is i;
          delay = delay_is i;
        })
        ∙ ap (λ w. record {
          number = x.number;
          resource = x.resource;
          priority = x.priority;
          work = w;
          predecessor = x.predecessor;
          period = x.period;
          delay = x.delay;
        }) (work_is (bit_time_of bits x.resource) x.work item_valid.work)

    no_spare : has_spare b k ≡ false
    no_spare = (λ i. bus_is i && not (eqb (greatest_is i) 0)) ∙ spare_none (bit_time_of bits x.resource) x.work item_valid.work

  pub items_are : items_of b ≡ xs
  items_are = sym (fill_by_all (item_in b) xs (items_in b) no_item (sym items_is) (λ k below. sym (item_is k (subst (λ m. k < m) items_is below))))

  ascends : (k : ℕ) → k < length xs → descends b k ≡ false
  ascends zero within = refl
  ascends (suc k) within =
      let lower : k < length xs = omega arith in
      (λ i. leb (item_is (suc k) within i).number (item_is k lower i).number) ∙ lt-leb _ _ (valid.ascending k (suc k) (omega arith) within)

  -- no record of it is bad
  pub none_bad : (k : ℕ) → k < items_in b → bad_record b k ≡ false
  none_bad k below =
      let within : k < length xs = subst (λ m. k < m) items_is below in
      let accepted : place_refusal (bits_of b) (take k (items_of b)) (item_in b k) ≡ None = (λ i. place_refusal (bits_is i) (take k (items_are i)) (item_is k within i)) ∙ accepted_next bits xs valid k within in
      or_from (descends b k) _ (ascends k within) (or_from _ (has_spare b k) (ap is_some accepted) (no_spare k within))

  pub length_is : length b ≡ size_of (length bits) (length xs)
  length_is =
      let first : length (flat_map first_record xs) ≡ 8 * length xs = length_joined first_record 8 (λ y. refl) xs in
      let second : length (flat_map second_record xs) ≡ 16 * length xs = length_joined second_record 16 (λ y. refl) xs in
      let arrays = length-append (flat_map first_record xs) (flat_map second_record xs) in
      let rest = length-append bits (flat_map first_record xs ++ flat_map second_record xs) in
      omega arith

  -- nor is its head
  pub head_good : head_fault b ≡ None
  head_good =
      let long = length_is in
      let same : length b ≡ size_of (resources_in b) (items_in b) = length_is ∙ sym (λ i. size_of (resources_is i) (items_is i)) in
      let low : 1 ≤ resources_in b = subst (λ m. 1 ≤ m) (sym resources_is) valid.resources_low in
      let high : resources_in b ≤ 16 = subst (λ m. m ≤ 16) (sym resources_is) valid.resources_high in
      let few : items_in b ≤ 256 = subst (λ m. m ≤ 256) (sym items_is) valid.size in
      cond-false _ _ _ (le-ltb (length b) 4 (omega arith))
      ∙ cond-false _ _ _ (or_from (outside 1 16 (resources_in b)) (ltb 256 (items_in b)) (not_outside 1 16 (resources_in b) low high) (le-ltb 256 (items_in b) few))
      ∙ cond-false _ _ _ (not_from_true _ (eq-eqb (length b) (size_of (resources_in b) (items_in b)) same))
      ∙ cond-false _ _ _ (ap (some_above 100) bits_is ∙ not_above 100 bits valid.bit_times)

use Rattle.std.proofs.Common.{◌≡◌, ◌+◌, ◌++◌, drop, length, take}
use Rattle.lg_bit_set.specs.Meaning.Flags.{numbers_of}
use Rattle.lg_gossip.specs.Support.Sets.{places_of}
use Rattle.lg_gossip.proofs.choice.take_sent.Given as goal

abbrev pub invariant-rows : goal.invariant-rows
invariant-rows l = record {
  items : l.taken.items ≡ l.initial.taken.items ++ take l.counter (places_of l.sends l.set);
  size : length l.taken.items ≡ length l.initial.taken.items + l.counter;
  rest : numbers_of l.rest ≡ drop l.counter (numbers_of l.set);
}

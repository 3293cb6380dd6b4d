use Rattle.std.specs.Prelude.{option_copied}
use Rattle.std.proofs.Common.{◌+◌, ◌-◌, ◌≡◌, ◌<◌, ◌++◌, length, ap, subst, arith}
use Rattle.std.proofs.lemmas.List.{length-take}
use Rattle.lg_bit_set.proofs.TestLaws.{length-flags_by}
use Rattle.lg_gossip.specs.declared.sets.TheConstants.{SETS}
use Rattle.lg_gossip.specs.Meaning.Queue.{room_beside}
use Rattle.lg_gossip.specs.Support.Places.{HasTaken}
use Rattle.lg_gossip.specs.Support.Sets.{was_sent, places_of}
use Rattle.lg_gossip.proofs.Choosing.{taken_none}
use Rattle.lg_gossip.proofs.SetAfterSet.{takes_beside, takes_no_more}
use Rattle.lg_gossip.proofs.choice.rows_by_sets.Goals as goal

pub loop-sends-init : goal.loop-sends-init
loop-sends-init c = record {
  taken = taken_none c.args.version (option_copied c.args.buddy) c.args.fewest c.args.rows.now.items c.new-taken.result.items
      c.new-taken.ensures c.requires.least;
  few = omega (arith, ap length c.new-taken.ensures);
}

pub without-set-requires : goal.without-set-requires
without-set-requires c =
    let sends = c.loop-sends.sends in
    let within : sends < SETS = omega (arith, c.loop-sends-test.true, c.requires.few) in
    let here = c.requires.sets.each sends c.index-sent-sends.result within in
    omega (arith, ap length here, length-flags_by (was_sent sends) c.args.rows.now.items c.requires.most)

pub loop-sends-preserved : goal.loop-sends-preserved
loop-sends-preserved c =
    let sends = c.loop-sends.sends in
    let room = c.room_beside-room.result in
    let taken = c.loop-sends.taken.items in
    let found = places_of sends c.without-set.result in
    let within : sends < SETS = omega (arith, c.loop-sends-test.true, c.requires.few) in
    record {
      taken = takes_beside c.args.version (option_copied c.args.buddy) c.args.rows.now.items c.requires.order sends room
          c.index_of_buddy-passed_over.result taken c.take_sent.new.taken.items c.args.sent.now
          c.index-sent-sends.result c.without-set.result c.room_beside-room.ensures.room within c.requires.sets
          c.index_of_buddy-passed_over.ensures c.loop-sends.invariant.taken c.without-set.ensures
          c.take_sent.ensures;
      few = omega (arith, ap length c.take_sent.ensures, length-take room (taken ++ found));
    }

-- no further set has a row that is taken
pub returns-then-len-room-clause-taken : goal.returns-then-len-room-clause-taken
returns-then-len-room-clause-taken c =
    let buddy = (option_copied c.args.buddy) in
    let rows = c.args.rows.now.items in
    let sends = c.loop-sends.sends in
    let now = c.take_sent.new.taken.items in
    let within : sends < SETS = omega (arith, c.loop-sends-test.true, c.requires.few) in
    let full : length now ≡ room_beside c.args.version buddy =
    omega (arith, c.len.ensures.value, c.if-len-room.true, c.room_beside-room.ensures.room) in
    let here =
    takes_beside c.args.version buddy rows c.requires.order sends c.room_beside-room.result
    c.index_of_buddy-passed_over.result c.loop-sends.taken.items now c.args.sent.now c.index-sent-sends.result
    c.without-set.result
    c.room_beside-room.ensures.room within c.requires.sets c.index_of_buddy-passed_over.ensures
    c.loop-sends.invariant.taken c.without-set.ensures c.take_sent.ensures in
    let whole : c.args.limit - (sends + 1) + (sends + 1) ≡ c.args.limit = omega (arith, c.loop-sends-test.true) in
    subst (λ n. HasTaken c.args.version buddy n rows now) whole
    (takes_no_more c.args.version buddy rows c.requires.order (c.args.limit - (sends + 1)) (sends + 1) now full here)

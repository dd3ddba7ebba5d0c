-- Each key's row is read under its own key.
use Rattle.std.proofs.Common.{◌≡◌, refl, List, ℕ, Option, Some, None, Ok}
use Rattle.protocol.specs.Decision.{layout, versions_in, of_version, decide}
use Rattle.protocol.specs.Table.{table}
use Rattle.rules.specs.Reading.{read_decided, read_layout}
use Rattle.fast_reading.specs.Answer.{ReadsAs}
use Rattle.fast_reading.proofs.Keys.{by_key}
use Rattle.fast_reading.proofs.reading.others.Goals as goal

first : (s old new : List ℕ) (key : ℕ) (r : Option Unit) (k : ℕ) → decide k 1 ≡ layout k 1 → key ≡ k → ReadsAs (read_layout k 1 s) old r new → ReadsAs (read_decided (decide key 1) s) old r new
first s old new key (Some read) k l i a = by_key s old new (Some (Ok read)) key 1 k 1 l i refl a
first s old new key None k l i a = by_key s old new None key 1 k 1 l i refl a

pub returns-in-1 : goal.returns-in-1
unfolding decide versions_in of_version table
returns-in-1 c = first _ _ _ c.args.key _ 0x0001 refl c.in-1.is c.declare_publisher.ensures

pub returns-in-2 : goal.returns-in-2
unfolding decide versions_in of_version table
returns-in-2 c = first _ _ _ c.args.key _ 0x0002 refl c.in-2.is c.publish.ensures

pub returns-in-3 : goal.returns-in-3
unfolding decide versions_in of_version table
returns-in-3 c = first _ _ _ c.args.key _ 0x0003 refl c.in-3.is c.publish_confirm.ensures

pub returns-in-7 : goal.returns-in-7
unfolding decide versions_in of_version table
returns-in-7 c = first _ _ _ c.args.key _ 0x0007 refl c.in-7.is c.subscribe.ensures

pub returns-in-9 : goal.returns-in-9
unfolding decide versions_in of_version table
returns-in-9 c = first _ _ _ c.args.key _ 0x0009 refl c.in-9.is c.credit.ensures

pub returns-in-21 : goal.returns-in-21
unfolding decide versions_in of_version table
returns-in-21 c = first _ _ _ c.args.key _ 0x0015 refl c.in-21.is c.«open».ensures

pub returns-in-23 : goal.returns-in-23
unfolding decide versions_in of_version table
returns-in-23 c = first _ _ _ c.args.key _ 0x0017 refl c.in-23.is c.heartbeat.ensures

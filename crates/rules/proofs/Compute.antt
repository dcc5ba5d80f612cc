-- One name that opens every definition of the rules: a proof by computation says `unfolding compute`.
-- Assumes nothing.
use Rattle.lists.specs.Lists as lists'
use Rattle.lists.specs.Tables as tables'
use Rattle.lists.specs.Text as text'
use Rattle.rules.specs.Events as events'
use Rattle.rules.specs.Bytes as bytes'
use Rattle.rules.specs.Envelopes as envelopes'
use Rattle.rules.specs.Applets as applets'
use Rattle.rules.specs.Rows as rows'
use Rattle.rules.specs.Timers as timers'
use Rattle.rules.specs.Arrivals as arrivals'
use Rattle.rules.specs.Commands as commands'
use Rattle.rules.specs.Desk as desk'
use Rattle.rules.specs.Refusals as refusals'
use Rattle.rules.specs.Rounds as rounds'
use Rattle.rules.specs.Step as step'
use Rattle.rules.specs.Beside as beside'
use Rattle.rules.specs.Runs as runs'
use Rattle.rules.specs.Floor as floor'
use Rattle.rules.specs.Held as held'

unfoldable pub open_lists : Unit {0}
unfolding lists'.empty? lists'.some? lists'.every? lists'.Every lists'.keep lists'.count lists'.leading lists'.index_of lists'.first lists'.change lists'.insert_before lists'.insert_at lists'.sum lists'.gather lists'.alike? lists'.padded lists'.in? lists'.same? lists'.repeats? lists'.smallest tables'.table
open_lists = tt

unfoldable pub open_text : Unit {0}
unfolding text'.ascii text'.digit_value text'.bytes_by text'.bytes
open_text = tt

unfoldable pub open_events : Unit {0}
unfolding events'.codes events'.named events'.kind_of events'.kind_of_code events'.not_supported events'.not_to_set events'.is_control
open_events = tt

unfoldable pub open_bytes : Unit {0}
unfolding bytes'.tag_size bytes'.tag_number bytes'.long_length bytes'.length_at bytes'.valued bytes'.element_by bytes'.element_at bytes'.run_by bytes'.run_at bytes'.is_run bytes'.first_value bytes'.occurring bytes'.found bytes'.part_of bytes'.outer_by bytes'.outer_of
open_bytes = tt

unfoldable pub open_envelopes : Unit {0}
unfolding envelopes'.is_sized envelopes'.only_byte envelopes'.one_byte envelopes'.with_byte envelopes'.with_devices envelopes'.help_in envelopes'.selection envelopes'.envelope_by envelopes'.with_outer envelopes'.envelope_of envelopes'.behind_length envelopes'.content_at envelopes'.content_of envelopes'.type_in envelopes'.of_type envelopes'.command_by envelopes'.command_of envelopes'.system_type
open_envelopes = tt

unfoldable pub open_applets : Unit {0}
unfolding applets'.is_number applets'.present applets'.applet applets'.looked_at applets'.out_of_range applets'.too_many applets'.requested applets'.clash applets'.newcomer applets'.registered applets'.is_registered applets'.owned_by_another applets'.with_registration applets'.register applets'.bad_duration applets'.seconds_of applets'.in_order
open_applets = tt

unfoldable pub open_rows : Unit {0}
unfolding rows'.place rows'.in_use rows'.smallest_free rows'.identifier_for rows'.next_pair rows'.all_made rows'.bad_text rows'.next_identifier rows'.with_entry rows'.not_its_row rows'.with_text rows'.with_enabled rows'.without_rows
open_rows = tt

unfoldable pub open_timers : Unit {0}
unfolding timers'.is_owner timers'.lowest_free timers'.at_limit timers'.none_free timers'.owner_of timers'.not_its_timer timers'.with_allocated timers'.with_released timers'.without_timers
open_timers = tt

unfoldable pub open_arrivals : Unit {0}
unfolding arrivals'.download arrivals'.arrival_of arrivals'.wants arrivals'.responds
open_arrivals = tt

unfoldable pub open_commands : Unit {0}
unfolding commands'.selectable commands'.shown_menu commands'.listened commands'.shown_from commands'.shown_events commands'.interval commands'.menu_of commands'.length_bytes commands'.command_bytes commands'.detail_bytes commands'.item_bytes commands'.items_bytes commands'.menu_value commands'.menu_bytes commands'.event_bytes commands'.duration_bytes commands'.interval_bytes commands'.off_bytes commands'.read_items commands'.parts_of commands'.value_of commands'.read_menu commands'.proper_item commands'.may_stand commands'.is_menu
open_commands = tt

unfoldable pub open_desk : Unit {0}
unfolding desk'.same_row? desk'.menu_changes desk'.events_change desk'.interval_changes desk'.is_polled desk'.due_after desk'.marked desk'.due_at_first desk'.with_profile desk'.is_due desk'.handed_out desk'.command_for desk'.due_matters desk'.first_command desk'.due_command desk'.with_first desk'.with_handed_out
open_desk = tt

unfoldable pub open_refusals : Unit {0}
unfolding refusals'.first_holding refusals'.absent refusals'.foreign_timer refusals'.admin_lines refusals'.event_lines refusals'.entry_lines refusals'.timer_lines refusals'.arrival_lines refusals'.proactive_lines refusals'.lines refusals'.refusal
open_refusals = tt

unfoldable pub open_rounds : Unit {0}
unfolding rounds'.arrived_with rounds'.opened rounds'.turns rounds'.named rounds'.round_with rounds'.by_settled rounds'.used_up
open_rounds = tt

unfoldable pub open_step : Unit {0}
unfolding step'.admin_tables step'.event_tables step'.entry_tables step'.timer_tables step'.tables_after step'.admin_round step'.round_after step'.arrival_desk step'.proactive_desk step'.desk_after step'.changed step'.event_answer step'.entry_answer step'.timer_answer step'.arrival_answer step'.answer step'.lent step'.front step'.written step'.outcome step'.step
open_step = tt

unfoldable pub open_beside : Unit {0}
unfolding beside'.fresh_by beside'.fresh_card beside'.read_by beside'.menu_reader beside'.allocate_by beside'.bank_allocate beside'.release_by beside'.bank_release
open_beside = tt

unfoldable pub open_runs : Unit {0}
unfolding runs'.card_after
open_runs = tt

unfoldable pub open_floor : Unit {0}
unfolding floor'.letters floor'.signed floor'.request_of floor'.order_by floor'.filled floor'.order_of floor'.shown_answer floor'.digit floor'.decimal_by floor'.decimal floor'.hex floor'.line_of floor'.obeyed floor'.obey floor'.step_line floor'.lines_by floor'.floor_lines
open_floor = tt

unfoldable pub open_held : Unit {0}
unfolding held'.view_row held'.stored_row held'.view_rows held'.stored_rows held'.view_desk held'.stored_desk held'.view_arrival held'.stored_arrival held'.stored_item held'.stored_menu held'.stored_answer
open_held = tt

unfoldable pub compute : Unit {0}
unfolding open_lists open_text open_events open_bytes open_envelopes open_applets open_rows open_timers open_arrivals open_commands open_desk open_refusals open_rounds open_step open_beside open_runs open_floor open_held
compute = tt
